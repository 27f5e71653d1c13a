-- What a run answers, writes and leaves.
use Rattle.std.specs.Prelude.{◌≡◌, ◌⊎◌, List, [], ◌∷◌, ◌++◌, codes, Option}
use Rattle.dns_wire.specs.Octets.{Octets}
use Rattle.dns_text.specs.Hexadecimal.{Spells, lines}
use Rattle.dns_command.specs.Endings.{AllowedAs, EmptiesAs, Rules, WritesAs}
use Rattle.dns_message.specs.Messages.{RecordValue, Valid}
use Rattle.dns_message.specs.Order.{canonical_list}
use Rattle.dns_message.specs.Same.{Same as AreSame}
use Rattle.dns_canon.specs.ExpectedStatus.{expected_status, limit_of, reads}
use Rattle.dns_canon.specs.Generated.{made_line}
use Rattle.dns_canon.specs.Parts.{first_text, second_text}
use Rattle.dns_canon.specs.Statuses.{ending_of}
use Rattle.dns_canon.specs.declared.status.Status.{Status}
use Rattle.dns_canon.specs.declared.status.Status.TheVariants.{Done, Usage, ReadFault, WriteFault, Memory}
use Rattle.dns_canon.specs.declared.words.Command.{Command}
use Rattle.dns_canon.specs.declared.words.Command.TheVariants.{Canon, Same, Make}

-- ---- the answer

-- The answer is the expected status, or one that may come in its place: the source failed, the sink failed at a text that was to be
-- written, or memory ran out. Nothing comes in place of `Usage`.
abbrev pub AllowedStatus : Status → Status → Type 0
AllowedStatus expected answer = AllowedAs Done Usage (ending_of answer) expected answer

-- ---- what is written

-- the line on the records of two messages: `same` if they are the same, and else `different`
abbrev pub ReportsSameness : List RecordValue → List RecordValue → Octets → Type 0
ReportsSameness rs ss printed = (AreSame rs ss × (printed ≡ codes "same" ++ 10 ∷ [])) ⊎ (¬ AreSame rs ss × (printed ≡ codes "different" ++ 10 ∷ []))

-- the text that a command prints for the text that it reads
abbrev pub Prints : Command → Octets → Octets → Type 0
Prints Canon text printed = (m : Octets) × (rs : List RecordValue) × Spells text m × Valid m rs × (printed ≡ lines (canonical_list rs))
Prints Same text printed =
    (m n : Octets) × (rs ss : List RecordValue) × Spells (first_text text) m × Spells (second_text text) n × Valid m rs × Valid n ss × ReportsSameness rs ss printed
Prints (Make count) text printed = printed ≡ made_line count

-- all of it is written at `Done`, and some prefix of it at `WriteFault`
abbrev pub WritesText : Command → Octets → Option Octets → Option Octets → Status → Type 0
WritesText command text old new answer = WritesAs (Prints command text) old new (ending_of answer)

-- ---- what is left

-- if the whole text has been read, nothing of it is left
abbrev pub Empties : Status → Option Octets → Option Octets → Type 0
Empties answer old new = EmptiesAs (ending_of answer) old new

-- ---- all of it

-- the rules of these commands
abbrev pub canon_rules : Rules Command Status
canon_rules = record {
  ending = ending_of;
  done = Done;
  usage = Usage;
  read_fault = ReadFault;
  write_fault = WriteFault;
  memory = Memory;
  reads = reads;
  limit = limit_of;
  expected = expected_status;
  Prints = Prints;
}
