-- How a run over lines ends: what it answers, writes and leaves.
use Rattle.std.specs.Prelude.{◌≡◌, ◌≢◌, ◌≤◌, ◌⊎◌, ◌-◌, ◌^◌, ◌++◌, ℕ, List, [], true, length, Option, Some, None}
use Rattle.std.specs.List.{concat}
use Rattle.std.specs.Io.KnownBytes.{Appends, Consumes, IsAtEnd}
use Rattle.dns_wire.specs.Octets.{Octets}
use Rattle.dns_text.specs.Outside.{BecomesFlag, Rose, WritesPrefix}
use Rattle.dns_text.specs.declared.io.traits.Source.{Ghosts as SourceGhosts}
use Rattle.dns_text.specs.declared.io.traits.Sink.{Ghosts as SinkGhosts}
use Rattle.dns_command.specs.Endings.{Reported}
use Rattle.dns_command.specs.Notes.{notice_line}
use Rattle.dns_command.specs.declared.notice.Notice.TheVariants as notice
use Rattle.dns_lines.specs.Answers.{Answers, AreAnswers}
use Rattle.dns_lines.specs.Lines.{HasLines, Parted}
use Rattle.dns_lines.specs.declared.command.LineCommand.{LineCommand}
use Rattle.dns_lines.specs.declared.status.LinesStatus.{LinesStatus}
use Rattle.dns_lines.specs.declared.status.LinesStatus.TheVariants.{Done, TooLong, Usage, ReadFault, WriteFault, Memory}

-- ---- what is written for the text that was read

-- the answers to all its lines
abbrev pub AnswersAll : LineCommand → Octets → Option Octets → Option Octets → Type 0
AnswersAll command text old new = (written : Octets) × Answers command text written × Appends old new written

-- the answers to the lines that an LF ends
pub record AnswersEnded (command : LineCommand) (text : Octets) (old new : Option Octets) : Type 0 where
  pub lines : List Octets
  pub rest : Octets
  pub answers : List Octets
  pub parted : Parted text lines rest
  pub are : AreAnswers command lines answers
  pub written : Appends old new (concat answers)

-- the answers to some of its first lines
pub record AnswersSome (command : LineCommand) (text : Octets) (old new : Option Octets) : Type 0 where
  pub lines : List Octets
  pub others : List Octets
  pub answers : List Octets
  pub has : HasLines text (lines ++ others)
  pub are : AreAnswers command lines answers
  pub written : Appends old new (concat answers)

-- some prefix of the answers to some of its first lines
pub record AnswersPrefix (command : LineCommand) (text : Octets) (old new : Option Octets) : Type 0 where
  pub lines : List Octets
  pub others : List Octets
  pub answers : List Octets
  pub has : HasLines text (lines ++ others)
  pub are : AreAnswers command lines answers
  pub written : WritesPrefix old new (concat answers)

-- by how the run ends
abbrev pub WritesFor : LinesStatus → LineCommand → Octets → Option Octets → Option Octets → Type 0
WritesFor Done command text old new = AnswersAll command text old new
WritesFor TooLong command text old new = AnswersEnded command text old new
WritesFor Usage command text old new = new ≡ old
WritesFor ReadFault command text old new = AnswersEnded command text old new
WritesFor WriteFault command text old new = AnswersPrefix command text old new
WritesFor Memory command text old new = AnswersSome command text old new

-- ---- a command

-- all that the sink took has arrived, or it took nothing
abbrev pub Settled : {K : Type 0} → SinkGhosts K → K → K → Type 0
Settled k sink sink' = BecomesFlag (k.is_flushed sink) (k.is_flushed sink') true ⊎ (sink' ≡ sink)

-- How a command ends over a source and a sink, by the octets that they report and their faults, before and after.
pub record Ended {S K : Type 0} (s : SourceGhosts S) (k : SinkGhosts K) (command : LineCommand) (source source' : S) (sink sink' : K) (status : LinesStatus) : Type 0 where
  -- the text that was read, and what was written for it
  pub text : Octets
  pub read : Consumes (s.left source) (s.left source') text
  pub written : WritesFor status command text (k.written sink) (k.written sink')
  -- the whole text was read, and has arrived
  pub emptied : status ≡ Done → IsAtEnd (s.left source')
  pub flushed : status ≡ Done → BecomesFlag (k.is_flushed sink) (k.is_flushed sink') true
  -- what was written before a read that failed, or before memory ran out, has arrived too
  pub settled : (status ≢ WriteFault) → Settled k sink sink'
  -- a fault is answered exactly if its device has counted one
  pub read_fault : status ≡ ReadFault → Rose (s.faults source) (s.faults source')
  pub read_steady : (status ≢ ReadFault) → s.faults source' ≡ s.faults source
  pub write_fault : status ≡ WriteFault → Rose (k.faults sink) (k.faults sink')
  pub write_steady : (status ≢ WriteFault) → k.faults sink' ≡ k.faults sink
  -- only a text of at least 2^64 - 1 octets is too long
  pub too_long : status ≡ TooLong → 2 ^ 64 - 1 ≤ length text
  pub command_is : status ≢ Usage

-- ---- words, lines and codes

-- the words are no command: the source and the sink stay; or they are a command, which is carried out
abbrev pub EndedFor : {S K : Type 0} → SourceGhosts S → SinkGhosts K → Option LineCommand → S → S → K → K → LinesStatus → Type 0
EndedFor s k None source source' sink sink' status = (status ≡ Usage) × (source' ≡ source) × (sink' ≡ sink)
EndedFor s k (Some command) source source' sink sink' status = Ended s k command source source' sink sink' status

-- the line that is noted for a status
abbrev pub note_of : LinesStatus → Octets
note_of Done = []
note_of TooLong = notice_line notice.TooLong
note_of Usage = notice_line notice.Usage
note_of ReadFault = notice_line notice.ReadFault
note_of WriteFault = notice_line notice.WriteFault
note_of Memory = notice_line notice.Memory

-- what the words come to, and what is noted of it
pub record Ran {S K N : Type 0} (s : SourceGhosts S) (k : SinkGhosts K) (n : SinkGhosts N) (command : Option LineCommand) (source source' : S) (sink sink' : K) (notes notes' : N)
    (status : LinesStatus) : Type 0 where
  pub ended : EndedFor s k command source source' sink sink' status
  pub noted : Reported n Done (note_of status) notes notes' status

abbrev pub code_of : LinesStatus → ℕ
code_of Done = 0
code_of TooLong = 4
code_of Usage = 5
code_of ReadFault = 6
code_of WriteFault = 7
code_of Memory = 8
