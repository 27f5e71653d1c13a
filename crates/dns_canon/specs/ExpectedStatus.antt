-- What a command calls for, by the text that it reads.
use Rattle.dns_text.specs.declared.transfer.TheConstants.{MESSAGE_TEXT_LIMIT}
use Rattle.dns_wire.specs.Octets.{Octets}
use Rattle.dns_canon.specs.declared.words.TheConstants.{LIMIT_OF_TWO}
use Rattle.std.specs.Prelude.{ℕ, ◌≤◌, List, [], ◌∷◌, length, map, Option, Some, None, Bool, true, false, nat_lt, if◌then◌else◌}
use Rattle.dns_text.specs.Hexadecimal.{Spells}
use Rattle.dns_command.specs.Endings.{text_if}
use Rattle.dns_text.specs.Spelled.{all_spelled}
use Rattle.dns_message.specs.Messages.{Reading, message_reading}
use Rattle.dns_message.specs.Refusals.{first_refused}
use Rattle.dns_message.specs.declared.canon_error.CanonError.{CanonError}
use Rattle.dns_canon.specs.Parts.{first_text, second_text}
use Rattle.dns_command.specs.Outcomes.{reads_text}
use Rattle.dns_command.specs.Refusals.{first_refusal as first_message_refusal}
use Rattle.dns_command.specs.declared.refusal.Refusal.TheVariants as refusal
use Rattle.dns_canon.specs.Statuses.{CanonRefusal, canon_status}
use Rattle.dns_canon.specs.declared.status.Status.{Status}
use Rattle.dns_canon.specs.declared.status.Status.TheVariants.{Done, BadHex, TooLong, Usage}
use Rattle.dns_canon.specs.declared.words.Command.{Command}
use Rattle.dns_canon.specs.declared.words.Command.TheVariants.{Canon, Same, Make}

-- ---- what a command reads

-- whether a command reads a text; `make` reads none
abbrev pub command_reads : Command → Bool
command_reads Canon = true
command_reads Same = true
command_reads (Make count) = false

-- nor do words that are no command
abbrev pub reads : Option Command → Bool
reads = reads_text command_reads

-- the text that is read, as far as the source reports what it has left
abbrev pub text_read : Option Command → Option Octets → Option Octets
text_read command left = text_if (reads command) left

-- the most octets of the text
abbrev pub limit_of : Command → ℕ
limit_of Canon = MESSAGE_TEXT_LIMIT
limit_of Same = LIMIT_OF_TWO
limit_of (Make count) = 0

-- the texts of the messages in it
abbrev pub texts_in : Command → Octets → List Octets
texts_in Canon text = text ∷ []
texts_in Same text = first_text text ∷ second_text text ∷ []
texts_in (Make count) text = []

-- ---- the expected status

-- the status of the first message that is not read whole, if there is one
abbrev pub status_of_first : Option (ℕ × CanonError) → Status
status_of_first None = Done
status_of_first (Some (message, error)) = canon_status message error

-- the refusal of the first message that is not read whole, where messages count from this number
abbrev pub first_refusal : ℕ → List Reading → Status
first_refusal number readings = status_of_first (first_refused number readings)

-- texts that are no digits are refused before any message
abbrev pub on_messages : Option (List Octets) → Status
on_messages None = BadHex
on_messages (Some messages) = first_refusal 0 (map message_reading messages)

-- the status that a text calls for, which is one: `expected_statuses_in_words` says it in other words
abbrev pub expected_status : Option Command → Octets → Status
expected_status None text = Usage
expected_status (Some command) text = if nat_lt (limit_of command) (length text) then TooLong else on_messages (all_spelled (texts_in command text))

-- why a text is refused; `None` if one is printed for it
abbrev pub texts_refusal : Option (List Octets) → Option CanonRefusal
texts_refusal None = Some refusal.BadHex
texts_refusal (Some messages) = first_message_refusal messages

abbrev pub canon_refusal : Command → Octets → Option CanonRefusal
canon_refusal command text = texts_refusal (all_spelled (texts_in command text))

-- ---- two messages

-- the text has at most 262,144 octets, and its parts spell these messages
abbrev pub SpellsBoth : Octets → Octets → Octets → Type 0
SpellsBoth text m n = (length text ≤ LIMIT_OF_TWO) × Spells (first_text text) m × Spells (second_text text) n
