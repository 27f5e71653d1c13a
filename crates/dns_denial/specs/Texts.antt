-- The message in a text, the outcome that a text calls for, and what is printed for it.
use Rattle.std.specs.Prelude.{◌≡◌, ◌≤◌, ◌<◌, ℕ, Bool, true, false, List, [], codes, filter, length, map, Option, Some, None, ⊤}
use Rattle.dns_wire.specs.Octets.{Octets}
use Rattle.dns_text.specs.declared.transfer.TheConstants.{MESSAGE_TEXT_LIMIT}
use Rattle.dns_command.specs.Endings.{Rules}
use Rattle.dns_command.specs.Outcomes.{expected_outcome, text_rules}
use Rattle.dns_command.specs.Refusals.{message_refusal as text_refusal, refusal_note}
use Rattle.dns_command.specs.Texts.{HasRecords}
use Rattle.dns_command.specs.declared.outcome.Outcome.{Outcome}
use Rattle.dns_command.specs.declared.outcome.Outcome.TheVariants as outcome
use Rattle.dns_command.specs.declared.refusal.Refusal.TheVariants.{BadHex, Short, Item, Own}
use Rattle.dns_message.specs.Canonical.{is_not_opt}
use Rattle.dns_message.specs.Messages.{RecordValue}
use Rattle.dns_message.specs.Order.{SortKey, collapsed, sort_key}
use Rattle.dns_denial.specs.Coverage.{coverage_text}
use Rattle.dns_denial.specs.Hashes.{hash_line}
use Rattle.dns_denial.specs.KeyTags.{key_tags_text}
use Rattle.dns_denial.specs.Signed.{DenialRefusal, labels_field, signatures, signature_at, signed_refusal, signed_text}
use Rattle.dns_denial.specs.declared.refusal.DenialReason.{DenialReason}
use Rattle.dns_denial.specs.declared.refusal.DenialReason.TheVariants.{TooManyLabels, NoSignature}
use Rattle.dns_denial.specs.declared.status.DenialStatus.{DenialStatus}
use Rattle.dns_denial.specs.declared.status.DenialStatus.TheVariants as status
use Rattle.dns_denial.specs.declared.words.DenialCommand.{DenialCommand}
use Rattle.dns_denial.specs.declared.words.DenialCommand.TheVariants.{Hash, Covers, Signed, KeyTags}

-- ---- records

-- what is compared of the records other than OPT, in canonical order, alike ones once and with the least time to live: of each the owner in
-- lowercase from the root on, the class, the type, the canonical octets of the data, and the time to live
abbrev pub members : List RecordValue → List SortKey
members rs = map sort_key (collapsed (filter is_not_opt rs))

-- ---- the expected outcome

-- why a text is refused whose message is read; a valid one by its members
abbrev pub message_refusal : (List SortKey → Option DenialRefusal) → Octets → Option DenialRefusal
message_refusal refusal text = text_refusal (record {}) (λ rs. refusal (members rs)) text

-- which commands read a message
abbrev pub denial_reads : DenialCommand → Bool
denial_reads (Hash name salt iterations) = false
denial_reads (Covers name) = true
denial_reads (Signed number) = true
denial_reads KeyTags = true

-- why a message is refused whose members are these
abbrev pub members_refusal : DenialCommand → List SortKey → Option DenialRefusal
members_refusal (Hash name salt iterations) records = None
members_refusal (Covers name) records = None
members_refusal (Signed number) records = signed_refusal number records
members_refusal KeyTags records = None

-- why a text is refused; `None` if a text is printed for it
abbrev pub denial_refusal : DenialCommand → Octets → Option DenialRefusal
denial_refusal (Hash name salt iterations) text = None
denial_refusal (Covers name) text = message_refusal (members_refusal (Covers name)) text
denial_refusal (Signed number) text = message_refusal (members_refusal (Signed number)) text
denial_refusal KeyTags text = message_refusal (members_refusal KeyTags) text

abbrev pub denial_limit : DenialCommand → ℕ
denial_limit command = MESSAGE_TEXT_LIMIT

-- the outcome that a text calls for; `denial_statuses_in_words` says it in other words
abbrev pub denial_outcome : Option DenialCommand → Octets → Outcome DenialRefusal
denial_outcome = expected_outcome denial_limit denial_refusal

-- the members have no signature of the number that is asked for
abbrev pub LacksSignature : DenialCommand → List SortKey → Type 0
LacksSignature (Hash name salt iterations) records = ⊥
LacksSignature (Covers name) records = ⊥
LacksSignature (Signed number) records = length (signatures records) ≤ number
LacksSignature KeyTags records = ⊥

-- the labels field of the signature that is asked for is more than the number of its owner's labels
abbrev pub HasTooManyLabels : DenialCommand → List SortKey → Type 0
HasTooManyLabels (Hash name salt iterations) records = ⊥
HasTooManyLabels (Covers name) records = ⊥
HasTooManyLabels (Signed number) records = (g : SortKey) × (signature_at number records ≡ Some g) × (length g.owner < labels_field g.octets)
HasTooManyLabels KeyTags records = ⊥

-- if a signature is asked for, the members have it, and its labels field is no more than the number of its owner's labels
abbrev pub Suits : DenialCommand → List SortKey → Type 0
Suits (Hash name salt iterations) records = ⊤
Suits (Covers name) records = ⊤
Suits (Signed number) records = (g : SortKey) × (signature_at number records ≡ Some g) × (labels_field g.octets ≤ length g.owner)
Suits KeyTags records = ⊤

-- ---- what is printed

-- what is printed of the members of a message
abbrev pub members_text : DenialCommand → List SortKey → Octets
members_text (Hash name salt iterations) records = []
members_text (Covers name) records = coverage_text name records
members_text (Signed number) records = signed_text number records
members_text KeyTags records = key_tags_text records

-- what is printed of the members of the message that a text spells
abbrev pub PrintsMembers : (List SortKey → Octets) → Octets → Octets → Type 0
PrintsMembers print text printed = (rs : List RecordValue) × HasRecords text rs × (printed ≡ print (members rs))

-- what is printed for a text: the line of the hash, whatever the text; or the lines of what the message's NSEC and NSEC3 records say of the
-- name; or the octets that one of its signatures is over; or the lines of the tags of its keys
abbrev pub PrintsDenial : DenialCommand → Octets → Octets → Type 0
PrintsDenial (Hash name salt iterations) text printed = printed ≡ hash_line name salt iterations
PrintsDenial (Covers name) text printed = PrintsMembers (coverage_text name) text printed
PrintsDenial (Signed number) text printed = PrintsMembers (signed_text number) text printed
PrintsDenial KeyTags text printed = PrintsMembers key_tags_text text printed

-- ---- lines and statuses

-- what is said of a reason
abbrev pub reason_words : DenialReason → Octets
reason_words TooManyLabels = codes "too many labels"
reason_words NoSignature = codes "no signature"

-- the line that is noted for a refusal; the message has the number 0
abbrev pub denial_note : DenialRefusal → Octets
denial_note = refusal_note (λ message. 0) reason_words

-- the rules of the commands
abbrev pub denial_rules : Rules DenialCommand (Outcome DenialRefusal)
denial_rules = text_rules denial_reads denial_limit denial_refusal PrintsDenial

-- a status as an outcome
abbrev pub outcome_of : DenialStatus → Outcome DenialRefusal
outcome_of status.Done = outcome.Done
outcome_of status.Short = outcome.Refused (Short (record {}))
outcome_of (status.Item section index) = outcome.Refused (Item (record {}) section index)
outcome_of status.BadHex = outcome.Refused BadHex
outcome_of status.TooLong = outcome.TooLong
outcome_of status.Usage = outcome.Usage
outcome_of status.ReadFault = outcome.ReadFault
outcome_of status.WriteFault = outcome.WriteFault
outcome_of status.Memory = outcome.Memory
outcome_of status.TooManyLabels = outcome.Refused (Own TooManyLabels)
outcome_of status.NoSignature = outcome.Refused (Own NoSignature)

abbrev pub code_of : DenialStatus → ℕ
code_of status.Done = 0
code_of status.Short = 1
code_of (status.Item section index) = 2
code_of status.BadHex = 3
code_of status.TooLong = 4
code_of status.Usage = 5
code_of status.ReadFault = 6
code_of status.WriteFault = 7
code_of status.Memory = 8
code_of status.TooManyLabels = 12
code_of status.NoSignature = 13
