-- The outcomes of a command that reads one text or none, whatever refuses it.
use Rattle.std.specs.Prelude.{◌≡◌, ◌≢◌, ℕ, Bool, true, false, [], length, Option, Some, None, Result, Ok, Err, IfErr, OnOk, nat_lt, if◌then◌else◌}
use Rattle.dns_wire.specs.Octets.{Octets}
use Rattle.dns_text.specs.Outside.{BecomesFlag, Rose}
use Rattle.dns_text.specs.declared.io.traits.Sink.{Ghosts as SinkGhosts}
use Rattle.dns_command.specs.Endings.{Ending, Rules, WritesAs}
use Rattle.dns_command.specs.Endings.Ending.{Printed, NoCommand, TextTooLong, TextRefused, SourceFailed, SinkFailed, NoMemory}
use Rattle.dns_command.specs.Notes.{ending_note, notice_text}
use Rattle.dns_command.specs.declared.notice.Notice.TheVariants as notice
use Rattle.dns_text.specs.declared.error.TextError.{TextError}
use Rattle.dns_text.specs.declared.error.TextError.TheVariants as text
use Rattle.dns_command.specs.declared.outcome.Outcome.{Outcome}
use Rattle.dns_command.specs.declared.outcome.Outcome.TheVariants.{Done, Usage, TooLong, Refused, ReadFault, WriteFault, Memory}
use Rattle.dns_command.specs.declared.outcome.PrintError.{PrintError}
use Rattle.dns_command.specs.declared.outcome.PrintError.TheVariants as print
use Rattle.dns_command.specs.declared.outcome.PutError.{PutError}
use Rattle.dns_command.specs.declared.outcome.PutError.TheVariants as put

-- the kind of an outcome
abbrev pub ending_of : {R : Type 0} → Outcome R → Ending
ending_of Done = Printed
ending_of Usage = NoCommand
ending_of TooLong = TextTooLong
ending_of (Refused r) = TextRefused
ending_of ReadFault = SourceFailed
ending_of WriteFault = SinkFailed
ending_of Memory = NoMemory

-- ---- the expected outcome

-- where a text is refused for a reason, or for none
abbrev pub refused_or_done : {R : Type 0} → Option R → Outcome R
refused_or_done None = Done
refused_or_done (Some r) = Refused r

-- the outcome that a text calls for, by the most octets of a command's text and by why the command refuses a text
abbrev pub expected_outcome : {C R : Type 0} → (C → ℕ) → (C → Octets → Option R) → Option C → Octets → Outcome R
expected_outcome limit refusal None text = Usage
expected_outcome limit refusal (Some command) text = if nat_lt (limit command) (length text) then TooLong else refused_or_done (refusal command text)

-- whether a text is read, by which commands read one; words that are no command read none
abbrev pub reads_text : {C : Type 0} → (C → Bool) → Option C → Bool
reads_text reads None = false
reads_text reads (Some command) = reads command

-- the rules of commands that read one text or none
abbrev pub text_rules : {C R : Type 0} → (C → Bool) → (C → ℕ) → (C → Octets → Option R) → (C → Octets → Octets → Type 0) → Rules C (Outcome R)
text_rules reads limit refusal Prints = record {
  ending = ending_of;
  done = Done;
  usage = Usage;
  read_fault = ReadFault;
  write_fault = WriteFault;
  memory = Memory;
  reads = reads_text reads;
  limit = limit;
  expected = expected_outcome limit refusal;
  Prints = Prints;
}

-- ---- outcomes of the parts

-- a text is refused for this reason, or memory ran out
abbrev pub RefusesFor : {R : Type 0} → Option R → PrintError R → Type 0
RefusesFor refusal (print.Refused r) = refusal ≡ Some r
RefusesFor refusal print.Memory = Unit {0}

abbrev pub text_outcome : {R : Type 0} → TextError → Outcome R
text_outcome text.TooLong = TooLong
text_outcome text.ReadFault = ReadFault
text_outcome text.Memory = Memory

abbrev pub put_error : {R : Type 0} → PrintError R → PutError R
put_error (print.Refused r) = put.Refused r
put_error print.Memory = put.Memory

abbrev pub put_outcome : {R : Type 0} → PutError R → Outcome R
put_outcome (put.Refused r) = Refused r
put_outcome put.WriteFault = WriteFault
put_outcome put.Memory = Memory

-- what came of putting a text
abbrev pub put_ending : {R : Type 0} → Result (Unit {0}) (PutError R) → Ending
put_ending (Ok u) = Printed
put_ending (Err (put.Refused r)) = TextRefused
put_ending (Err put.WriteFault) = SinkFailed
put_ending (Err put.Memory) = NoMemory

-- a text is refused for this reason, or it is not refused and the sink failed, or memory ran out
abbrev pub StopsFor : {R : Type 0} → Option R → PutError R → Type 0
StopsFor refusal (put.Refused r) = refusal ≡ Some r
StopsFor refusal put.WriteFault = refusal ≡ None
StopsFor refusal put.Memory = Unit {0}

-- What is put for a text, by why the text is refused and by what is printed for it.
pub record PutsFor {K R : Type 0} (k : SinkGhosts K) (refusal : Option R) (Prints : Octets → Type 0) (sink sink' : K) (result : Result (Unit {0}) (PutError R)) : Type 0 where
  pub accepted : OnOk result (refusal ≡ None)
  pub refused : IfErr result (StopsFor refusal)
  pub written : WritesAs Prints (k.written sink) (k.written sink') (put_ending result)
  pub unwritten : IfErr result (λ error. (error ≢ put.WriteFault) → sink' ≡ sink)
  pub write_fault : result ≡ Err put.WriteFault → Rose (k.faults sink) (k.faults sink')
  pub write_steady : (result ≢ Err put.WriteFault) → k.faults sink' ≡ k.faults sink
  pub flushed : OnOk result (BecomesFlag (k.is_flushed sink) (k.is_flushed sink') true)

-- the text that is shown for why there is no text to print, by those of the refusals
abbrev pub error_text : {R : Type 0} → (R → Option Octets) → PrintError R → Option Octets
error_text shown (print.Refused r) = shown r
error_text shown print.Memory = Some (notice_text notice.Memory)

-- ---- the line for an outcome

-- the line of a refused text, by those of the reasons
abbrev pub refusal_line : {R : Type 0} → (R → Octets) → Outcome R → Octets
refusal_line own (Refused r) = own r
refusal_line own outcome = []

-- the line that is noted for an outcome
abbrev pub note_of : {R : Type 0} → (R → Octets) → Outcome R → Octets
note_of own outcome = ending_note (ending_of outcome) (refusal_line own outcome)
