-- Why a text of messages is refused.
use Rattle.std.specs.Prelude.{ℕ, List, [], map, Option, Some, None, Result, Ok, Err}
use Rattle.dns_wire.specs.Octets.{Octets}
use Rattle.dns_wire.specs.Pointers.{name_at}
use Rattle.dns_text.specs.Hexadecimal.{spelled, trim}
use Rattle.dns_text.specs.declared.error.HexError.{HexError}
use Rattle.dns_text.specs.declared.error.HexError.TheVariants as hexadecimal
use Rattle.dns_record.specs.Data.{data_in}
use Rattle.dns_record.specs.FurtherFormats.{DataReading}
use Rattle.dns_message.specs.Messages.{Reading, RecordValue, message_by, records_among}
use Rattle.dns_message.specs.Messages.Reading.{Short as TooShort, Stopped, Whole}
use Rattle.dns_message.specs.Refusals.{first_refused}
use Rattle.dns_message.specs.declared.canon_error.CanonError.{CanonError}
use Rattle.dns_message.specs.declared.canon_error.CanonError.TheVariants as canon
use Rattle.dns_command.specs.Notes.{notice_line, notice_text, note_line}
use Rattle.dns_command.specs.declared.notice.Notice.{Notice}
use Rattle.dns_command.specs.declared.notice.Notice.TheVariants as notice
use Rattle.dns_command.specs.declared.outcome.PrintError.{PrintError}
use Rattle.dns_command.specs.declared.outcome.PrintError.TheVariants as print
use Rattle.dns_command.specs.declared.refusal.Refusal.{Refusal}
use Rattle.dns_command.specs.declared.refusal.Refusal.TheVariants.{BadHex, Short, Item, Own}

-- ---- errors

-- a text that spells no octets, or no memory for them
abbrev pub hex_error : {M R : Type 0} → HexError → PrintError (Refusal M R)
hex_error hexadecimal.BadHex = print.Refused BadHex
hex_error hexadecimal.Memory = print.Memory

-- a message of this number that is not read whole, or no memory for it
abbrev pub message_error : {M R : Type 0} → M → CanonError → PrintError (Refusal M R)
message_error message canon.Short = print.Refused (Short message)
message_error message (canon.Item section index) = print.Refused (Item message section index)
message_error message canon.Memory = print.Memory

-- ---- a text of one message

-- why a message of this number is refused that is read so; one that is read whole by its records
abbrev pub reading_refusal : {M R : Type 0} → M → (List RecordValue → Option (Refusal M R)) → Reading → Option (Refusal M R)
reading_refusal message refusal TooShort = Some (Short message)
reading_refusal message refusal (Stopped items section index place) = Some (Item message section index)
reading_refusal message refusal (Whole items end) = refusal (records_among items)

-- why a text is refused that does or does not spell octets, if data are read so
abbrev pub spelling_refusal_by : {M R : Type 0} → DataReading → M → (List RecordValue → Option (Refusal M R)) → Option Octets → Option (Refusal M R)
spelling_refusal_by reads message refusal None = Some BadHex
spelling_refusal_by reads message refusal (Some m) = reading_refusal message refusal (message_by reads m)

abbrev pub spelling_refusal : {M R : Type 0} → M → (List RecordValue → Option (Refusal M R)) → Option Octets → Option (Refusal M R)
spelling_refusal = spelling_refusal_by (data_in name_at)

-- why a text is refused whose message is read
abbrev pub message_refusal_by : {M R : Type 0} → DataReading → M → (List RecordValue → Option (Refusal M R)) → Octets → Option (Refusal M R)
message_refusal_by reads message refusal text = spelling_refusal_by reads message refusal (spelled (trim text))

abbrev pub message_refusal : {M R : Type 0} → M → (List RecordValue → Option (Refusal M R)) → Octets → Option (Refusal M R)
message_refusal = message_refusal_by (data_in name_at)

-- ---- several messages, which count from 0

-- a refusal of a message by its number, if memory is not refused for it
abbrev pub numbered_refusal : {R : Type 0} → ℕ → CanonError → Option (Refusal ℕ R)
numbered_refusal message canon.Short = Some (Short message)
numbered_refusal message (canon.Item section index) = Some (Item message section index)
numbered_refusal message canon.Memory = None

-- the refusal of the first message that is not read whole
abbrev pub on_first : {R : Type 0} → Option (ℕ × CanonError) → Option (Refusal ℕ R)
on_first None = None
on_first (Some (message, error)) = numbered_refusal message error

abbrev pub first_refusal_by : {R : Type 0} → DataReading → List Octets → Option (Refusal ℕ R)
first_refusal_by reads messages = on_first (first_refused 0 (map (message_by reads) messages))

abbrev pub first_refusal : {R : Type 0} → List Octets → Option (Refusal ℕ R)
first_refusal = first_refusal_by (data_in name_at)

-- ---- what is noted

-- what is noted for a message that is refused, by the numbers of messages, or the command's own reason
abbrev pub message_notice : {M R : Type 0} → (M → ℕ) → Refusal M R → Result Notice R
message_notice number BadHex = Ok notice.BadHex
message_notice number (Short message) = Ok (notice.Short (number message))
message_notice number (Item message section index) = Ok (notice.Item (number message) section index)
message_notice number (Own own) = Err own

-- the text that is shown for a refusal
abbrev pub refusal_text : {M R : Type 0} → (M → ℕ) → (R → Octets) → Refusal M R → Octets
refusal_text number words BadHex = notice_text notice.BadHex
refusal_text number words (Short message) = notice_text (notice.Short (number message))
refusal_text number words (Item message section index) = notice_text (notice.Item (number message) section index)
refusal_text number words (Own own) = words own

-- the line that is noted for a refusal, by the numbers of messages and the words of the command's own refusals
abbrev pub refusal_note : {M R : Type 0} → (M → ℕ) → (R → Octets) → Refusal M R → Octets
refusal_note number words BadHex = notice_line notice.BadHex
refusal_note number words (Short message) = notice_line (notice.Short (number message))
refusal_note number words (Item message section index) = notice_line (notice.Item (number message) section index)
refusal_note number words (Own own) = note_line (words own) []
