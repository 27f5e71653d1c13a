-- The message in a text, and the outcome that a text calls for.
use Rattle.std.specs.Prelude.{◌≡◌, ℕ, List, [], ◌∷◌, bytes_eq, codes, length, nat_lt, Option, Some, None, if◌then◌else◌, true, ⊤}
use Rattle.dns_wire.specs.Octets.{Octets}
use Rattle.dns_text.specs.Hexadecimal.{line}
use Rattle.dns_text.specs.declared.transfer.TheConstants.{MESSAGE_TEXT_LIMIT}
use Rattle.dns_command.specs.Endings.{Rules}
use Rattle.dns_command.specs.Outcomes.{expected_outcome, text_rules}
use Rattle.dns_command.specs.Refusals.{message_refusal, refusal_note}
use Rattle.dns_command.specs.Texts.{HasRecords}
use Rattle.dns_command.specs.declared.outcome.Outcome.{Outcome}
use Rattle.dns_command.specs.declared.outcome.Outcome.TheVariants as outcome
use Rattle.dns_command.specs.declared.refusal.OneMessage.{OneMessage}
use Rattle.dns_command.specs.declared.refusal.Refusal.{Refusal}
use Rattle.dns_command.specs.declared.refusal.Refusal.TheVariants.{BadHex, Short, Item, Own}
use Rattle.dns_message.specs.Messages.{RecordValue}
use Rattle.dns_message.specs.declared.message.TheConstants.{MAX_MESSAGE_SIZE}
use Rattle.dns_normal.specs.Normal.{normal_form}
use Rattle.dns_normal.specs.declared.refusal.NormalReason.{NormalReason}
use Rattle.dns_normal.specs.declared.refusal.NormalReason.TheVariants.{TooLarge}
use Rattle.dns_normal.specs.declared.status.NormalStatus.{NormalStatus}
use Rattle.dns_normal.specs.declared.status.NormalStatus.TheVariants as status

-- ---- words

-- the command, if the words are `normal` alone
abbrev pub command_of : List Octets → Option ⊤
command_of [] = None
command_of (word ∷ []) = if bytes_eq word (codes "normal") then Some tt else None
command_of (word ∷ other ∷ more) = None

-- ---- the expected outcome

-- why a text is refused
abbrev pub NormalRefusal : Type 0
NormalRefusal = Refusal OneMessage NormalReason

-- why a message is refused that has more octets than a message may have
abbrev pub size_refusal : Octets → Option NormalRefusal
size_refusal m = if nat_lt MAX_MESSAGE_SIZE (length m) then Some (Own TooLarge) else None

-- why records are refused: their normal form has more octets than that
abbrev pub form_refusal : List RecordValue → Option NormalRefusal
form_refusal rs = size_refusal (normal_form rs)

-- why a text is refused; `None` if the normal form of its message is printed for it
abbrev pub normal_refusal : ⊤ → Octets → Option NormalRefusal
normal_refusal command text = message_refusal (record {}) form_refusal text

abbrev pub normal_limit : ⊤ → ℕ
normal_limit command = MESSAGE_TEXT_LIMIT

-- the outcome that a text calls for; `normal_statuses_in_words` says it in other words
abbrev pub normal_outcome : Option ⊤ → Octets → Outcome NormalRefusal
normal_outcome = expected_outcome normal_limit normal_refusal

-- ---- what is printed

-- what is printed for a text: the digits of the normal form of its message, and LF
abbrev pub PrintsNormal : ⊤ → Octets → Octets → Type 0
PrintsNormal command text printed = (rs : List RecordValue) × HasRecords text rs × (printed ≡ line (normal_form rs))

-- ---- lines and statuses

-- what is said of a reason
abbrev pub reason_words : NormalReason → Octets
reason_words TooLarge = codes "too large"

-- the line that is noted for a refusal; the message has the number 0
abbrev pub normal_note : NormalRefusal → Octets
normal_note = refusal_note (λ message. 0) reason_words

-- the rules of the command
abbrev pub normal_rules : Rules ⊤ (Outcome NormalRefusal)
normal_rules = text_rules (λ command. true) normal_limit normal_refusal PrintsNormal

-- a status as an outcome
abbrev pub outcome_of : NormalStatus → Outcome NormalRefusal
outcome_of status.Done = outcome.Done
outcome_of status.Short = outcome.Refused (Short (record {}))
outcome_of (status.Item section index) = outcome.Refused (Item (record {}) section index)
outcome_of status.BadHex = outcome.Refused BadHex
outcome_of status.TooLong = outcome.TooLong
outcome_of status.Usage = outcome.Usage
outcome_of status.ReadFault = outcome.ReadFault
outcome_of status.WriteFault = outcome.WriteFault
outcome_of status.Memory = outcome.Memory
outcome_of status.TooLarge = outcome.Refused (Own TooLarge)

abbrev pub code_of : NormalStatus → ℕ
code_of status.Done = 0
code_of status.Short = 1
code_of (status.Item section index) = 2
code_of status.BadHex = 3
code_of status.TooLong = 4
code_of status.Usage = 5
code_of status.ReadFault = 6
code_of status.WriteFault = 7
code_of status.Memory = 8
code_of status.TooLarge = 11
