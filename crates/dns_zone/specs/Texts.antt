-- The messages of a zone in a text, a line each, and the outcome that a text calls for.
use Rattle.std.specs.Prelude.{◌≡◌, ◌==◌, ℕ, List, [], ◌∷◌, bytes_eq, codes, flat_map, Option, Some, None, if◌then◌else◌, true}
use Rattle.std.specs.List.{slice_split}
use Rattle.std.specs.Result.{result_ok}
use Rattle.dns_wire.specs.Octets.{Octets, Labels}
use Rattle.dns_text.specs.Hexadecimal.{trim}
use Rattle.dns_command.specs.Endings.{Rules}
use Rattle.dns_command.specs.Outcomes.{expected_outcome, text_rules}
use Rattle.dns_text.specs.Spelled.{all_spelled}
use Rattle.dns_command.specs.declared.outcome.Outcome.{Outcome}
use Rattle.dns_command.specs.declared.outcome.Outcome.TheVariants as outcome
use Rattle.dns_command.specs.Refusals.{first_refusal_by, refusal_note}
use Rattle.dns_command.specs.declared.refusal.Refusal.{Refusal}
use Rattle.dns_command.specs.declared.refusal.Refusal.TheVariants.{BadHex, Short, Item, Own}
use Rattle.dns_name.specs.Text.{parsed_name}
use Rattle.dns_wire.specs.Pointers.{name_at}
use Rattle.dns_record.specs.Data.{data_in}
use Rattle.dns_record.specs.FurtherFormats.{DataReading}
use Rattle.dns_message.specs.Messages.{RecordValue}
use Rattle.dns_message.specs.Several.{AreValid, IsFirstRefused, all_records_by}
use Rattle.dns_message.specs.declared.canon_error.CanonError.{CanonError}
use Rattle.dns_zone.specs.Zone.{has_soa, zone_text}
use Rattle.dns_zone.specs.declared.refusal.ZoneReason.{ZoneReason}
use Rattle.dns_zone.specs.declared.refusal.ZoneReason.TheVariants.{NoSoa}
use Rattle.dns_zone.specs.declared.refusal.TheConstants.{ZONE_TEXT_LIMIT}
use Rattle.dns_zone.specs.declared.status.ZoneStatus.{ZoneStatus}
use Rattle.dns_zone.specs.declared.status.ZoneStatus.TheVariants as status

-- ---- words

-- the apex that a text is, if it is the text of a name
abbrev pub apex_named : Octets → Octets → Option Labels
apex_named word text = if bytes_eq word (codes "zone") then result_ok (parsed_name text) else None

-- the apex that the words `zone APEX` name; `words_of_zones` says it in other words
abbrev pub apex_of : List Octets → Option Labels
apex_of [] = None
apex_of (word ∷ []) = None
apex_of (word ∷ text ∷ []) = apex_named word text
apex_of (word ∷ text ∷ other ∷ more) = None

-- ---- messages

-- the lines of a text that has no whitespace at its end; an empty text has none
abbrev pub lines_of : Octets → List Octets
lines_of [] = []
lines_of (b ∷ text) = slice_split (λ c. c == 10) (b ∷ text)

-- the texts of the messages in a text
abbrev pub texts_in : Octets → List Octets
texts_in text = lines_of (trim text)

-- ---- the expected outcome

-- why a text of messages is refused
abbrev pub ZoneRefusal : Type 0
ZoneRefusal = Refusal ℕ ZoneReason

-- why texts that do or do not spell octets are refused
abbrev pub lines_refusal : Option (List Octets) → Option ZoneRefusal
lines_refusal None = Some BadHex
lines_refusal (Some messages) = None

-- if all messages are valid, they are refused exactly if they have no SOA record of the apex
abbrev pub on_records : Labels → List RecordValue → Option ZoneRefusal → Option ZoneRefusal
on_records apex rs (Some refusal) = Some refusal
on_records apex rs None = if has_soa apex rs then None else Some (Own NoSoa)

-- texts that are no digits are refused before any message
abbrev pub on_messages_by : DataReading → Labels → Option (List Octets) → Option ZoneRefusal
on_messages_by reads apex None = Some BadHex
on_messages_by reads apex (Some messages) = on_records apex (all_records_by reads messages) (first_refusal_by reads messages)

abbrev pub on_messages : Labels → Option (List Octets) → Option ZoneRefusal
on_messages = on_messages_by (data_in name_at)

-- why a text is refused; `None` if the zone's digest is printed for it
abbrev pub zone_refusal : Labels → Octets → Option ZoneRefusal
zone_refusal apex text = on_messages apex (all_spelled (texts_in text))

abbrev pub zone_limit : Labels → ℕ
zone_limit apex = ZONE_TEXT_LIMIT

-- the outcome that a text calls for; `zone_statuses_in_words` says it in other words
abbrev pub zone_outcome : Option Labels → Octets → Outcome ZoneRefusal
zone_outcome = expected_outcome zone_limit zone_refusal

-- ---- what is printed

-- the text spells messages that are valid, and these are their records, in order
abbrev pub HasRecords : Octets → List RecordValue → Type 0
HasRecords text rs = (messages : List Octets) × (rss : List (List RecordValue)) × (all_spelled (texts_in text) ≡ Some messages) × AreValid messages rss × (rs ≡ flat_map (λ r. r) rss)

-- the text spells messages, and the message of this number is the first that is refused, so
abbrev pub RefusesMessage : Octets → ℕ → CanonError → Type 0
RefusesMessage text number error = (messages : List Octets) × (all_spelled (texts_in text) ≡ Some messages) × IsFirstRefused messages number error

-- what is printed for a text: the numbers and the digest of its messages' records in the zone
abbrev pub PrintsZone : Labels → Octets → Octets → Type 0
PrintsZone apex text printed = (rs : List RecordValue) × HasRecords text rs × (printed ≡ zone_text apex rs)

-- ---- lines and statuses

-- what is said of a reason
abbrev pub reason_words : ZoneReason → Octets
reason_words NoSoa = codes "no soa"

-- the line that is noted for a refusal
abbrev pub zone_note : ZoneRefusal → Octets
zone_note = refusal_note (λ message. message) reason_words

-- the rules of the command
abbrev pub zone_rules : Rules Labels (Outcome ZoneRefusal)
zone_rules = text_rules (λ command. true) zone_limit zone_refusal PrintsZone

-- a status as an outcome
abbrev pub outcome_of : ZoneStatus → Outcome ZoneRefusal
outcome_of status.Done = outcome.Done
outcome_of (status.Short message) = outcome.Refused (Short message)
outcome_of (status.Item message section index) = outcome.Refused (Item message section index)
outcome_of status.BadHex = outcome.Refused BadHex
outcome_of status.TooLong = outcome.TooLong
outcome_of status.Usage = outcome.Usage
outcome_of status.ReadFault = outcome.ReadFault
outcome_of status.WriteFault = outcome.WriteFault
outcome_of status.Memory = outcome.Memory
outcome_of status.NoSoa = outcome.Refused (Own NoSoa)

abbrev pub code_of : ZoneStatus → ℕ
code_of status.Done = 0
code_of (status.Short message) = 1
code_of (status.Item message section index) = 2
code_of status.BadHex = 3
code_of status.TooLong = 4
code_of status.Usage = 5
code_of status.ReadFault = 6
code_of status.WriteFault = 7
code_of status.Memory = 8
code_of status.NoSoa = 10
