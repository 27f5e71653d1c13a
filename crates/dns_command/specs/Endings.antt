-- How a command over a source and a sink ends: what it answers, writes and leaves.
use Rattle.std.specs.Prelude.{◌≡◌, ◌≢◌, ◌⊎◌, ◌↔◌, ◌+◌, ℕ, [], Bool, true, false, Option, Some, None, IfSome, if◌then◌else◌}
use Rattle.std.specs.Io.KnownBytes.{Appends}
use Rattle.dns_wire.specs.Octets.{Octets}
use Rattle.dns_text.specs.Outside.{Rose, BecomesFlag, WritesPrefix}
use Rattle.dns_text.specs.declared.io.traits.Source.{Ghosts as SourceGhosts}
use Rattle.dns_text.specs.declared.io.traits.Sink.{Ghosts as SinkGhosts}
use Rattle.dns_text.specs.Taken.{TakesAtMost}
use Rattle.dns_text.specs.declared.transfer.TheConstants.{READ_CHUNK}

-- ---- kinds of statuses

-- all was written; the words are no command; the text has more octets than the limit; the text is refused after it was read; the
-- source failed; the sink failed; memory ran out
pub data Ending : Type 0 where
  Printed : Ending
  NoCommand : Ending
  TextTooLong : Ending
  TextRefused : Ending
  SourceFailed : Ending
  SinkFailed : Ending
  NoMemory : Ending

-- What is fixed for some commands: the kind of each status, those that all commands have, which commands read a text and how long
-- it may be, the status that a text calls for, and what is printed for it.
pub record Rules (Command Status : Type 0) : Type 1 where
  pub ending : Status → Ending
  pub done : Status
  pub usage : Status
  pub read_fault : Status
  pub write_fault : Status
  pub memory : Status
  pub reads : Option Command → Bool
  pub limit : Command → ℕ
  pub expected : Option Command → Octets → Status
  pub Prints : Command → Octets → Octets → Type 0

-- ---- the answer

-- The answer is the expected status, or one that may come in its place: the source failed, the sink failed at a text that was to be
-- written, or memory ran out. Nothing comes in place of the refusal of words that are no command.
abbrev pub AllowedAs : {Status : Type 0} → Status → Status → Ending → Status → Status → Type 0
AllowedAs done usage SourceFailed expected answer = expected ≢ usage
AllowedAs done usage SinkFailed expected answer = expected ≡ done
AllowedAs done usage NoMemory expected answer = expected ≢ usage
AllowedAs done usage Printed expected answer = answer ≡ expected
AllowedAs done usage NoCommand expected answer = answer ≡ expected
AllowedAs done usage TextTooLong expected answer = answer ≡ expected
AllowedAs done usage TextRefused expected answer = answer ≡ expected

-- the text that is read, as far as the source reports what it has left
abbrev pub text_if : Bool → Option Octets → Option Octets
text_if reads left = if reads then left else Some []

-- ---- what is written

-- all of the text is written if the command has printed, and some prefix of it if the sink failed
abbrev pub WritesAs : (Octets → Type 0) → Option Octets → Option Octets → Ending → Type 0
WritesAs Prints old new Printed = (printed : Octets) × Prints printed × Appends old new printed
WritesAs Prints old new SinkFailed = (printed : Octets) × Prints printed × WritesPrefix old new printed
WritesAs Prints old new NoCommand = Unit {0}
WritesAs Prints old new TextTooLong = Unit {0}
WritesAs Prints old new TextRefused = Unit {0}
WritesAs Prints old new SourceFailed = Unit {0}
WritesAs Prints old new NoMemory = Unit {0}

-- ---- what is left

-- nothing is left of what was known
abbrev pub IsEmptied : Option Octets → Option Octets → Type 0
IsEmptied old new = IfSome old (λ _. new ≡ Some [])

-- if the whole text has been read, nothing of it is left
abbrev pub EmptiesAs : Ending → Option Octets → Option Octets → Type 0
EmptiesAs Printed old new = IsEmptied old new
EmptiesAs TextRefused old new = IsEmptied old new
EmptiesAs SinkFailed old new = IsEmptied old new
EmptiesAs NoCommand old new = Unit {0}
EmptiesAs TextTooLong old new = Unit {0}
EmptiesAs SourceFailed old new = Unit {0}
EmptiesAs NoMemory old new = Unit {0}

-- ---- all of it

-- What a command answers over a source and a sink, by the octets that they report and their faults, before and after.
pub record Ended {S K Command Status : Type 0} (s : SourceGhosts S) (k : SinkGhosts K) (rules : Rules Command Status)
    (command : Option Command) (source source' : S) (sink sink' : K) (status : Status) : Type 0 where
  -- words that are no command are refused, whatever the source has
  pub usage : (status ≡ rules.usage) ↔ (command ≡ None)
  -- the answer is what the text calls for, or one that may come in its place
  pub expected_status : IfSome (text_if (rules.reads command) (s.left source)) (λ t. AllowedAs rules.done rules.usage (rules.ending status) (rules.expected command t) status)
  -- a fault is answered exactly if its device has counted one, and a fault of the source only if the command reads
  pub read_fault : status ≡ rules.read_fault → Rose (s.faults source) (s.faults source')
  pub read_steady : (status ≢ rules.read_fault) → s.faults source' ≡ s.faults source
  pub reading : status ≡ rules.read_fault → rules.reads command ≡ true
  pub write_fault : status ≡ rules.write_fault → Rose (k.faults sink) (k.faults sink')
  pub write_steady : (status ≢ rules.write_fault) → k.faults sink' ≡ k.faults sink
  -- with no fault of the sink, nor of the source if the command reads, the answer is what the text calls for, or memory ran out
  pub complete : (rules.reads command ≡ true → Rose (s.faults source) (s.faults source') → ⊥) → (Rose (k.faults sink) (k.faults sink') → ⊥)
      → IfSome (text_if (rules.reads command) (s.left source)) (λ t. (status ≡ rules.expected command t) ⊎ (status ≡ rules.memory))
  -- what is written
  pub written : IfSome command (λ c. IfSome (text_if (rules.reads (Some c)) (s.left source)) (λ t. WritesAs (rules.Prints c t) (k.written sink) (k.written sink') (rules.ending status)))
  pub unwritten : (status ≢ rules.done) → (status ≢ rules.write_fault) → sink' ≡ sink
  pub flushed : status ≡ rules.done → BecomesFlag (k.is_flushed sink) (k.is_flushed sink') true
  -- what is left: at most the limit and one read are taken
  pub unread : rules.reads command ≡ false → source' ≡ source
  pub emptied : rules.reads command ≡ true → EmptiesAs (rules.ending status) (s.left source) (s.left source')
  pub taken : IfSome command (λ c. TakesAtMost (s.left source) (s.left source') (rules.limit c + READ_CHUNK))

-- The line for a status is noted, nothing if all was written, and a prefix of the line if the notes fail.
pub record Reported {N Status : Type 0} (n : SinkGhosts N) (done : Status) (note : Octets) (notes notes' : N) (status : Status) : Type 0 where
  pub quiet : status ≡ done → notes' ≡ notes
  pub reported : WritesPrefix (n.written notes) (n.written notes') note
  pub reported_whole : (Rose (n.faults notes) (n.faults notes') → ⊥) → Appends (n.written notes) (n.written notes') note

-- what a command answers, and what is noted of it
pub record Ran {S K N Command Status : Type 0} (s : SourceGhosts S) (k : SinkGhosts K) (n : SinkGhosts N) (rules : Rules Command Status) (note : Status → Octets)
    (command : Option Command) (source source' : S) (sink sink' : K) (notes notes' : N) (status : Status) : Type 0 where
  pub ended : Ended s k rules command source source' sink sink' status
  pub noted : Reported n rules.done (note status) notes notes' status
