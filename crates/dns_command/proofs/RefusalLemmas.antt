-- Why the message of a text is refused.
use Rattle.std.proofs.Common.{◌≡◌, ℕ, List, Option, Some, sym, ap, ◌∙◌}
use Rattle.dns_wire.specs.Pointers.{name_at}
use Rattle.dns_text.specs.Hexadecimal.{spelled, trim}
use Rattle.dns_record.specs.Data.{data_in}
use Rattle.dns_record.specs.FurtherFormats.{DataReading}
use Rattle.dns_message.specs.Messages.{RecordValue, Valid, ValidBy, message_by, message_reading}
use Rattle.dns_message.specs.Refusals.{RefusedByOrMemory}
use Rattle.dns_message.specs.declared.canon_error.CanonError.{CanonError}
use Rattle.dns_message.specs.declared.canon_error.CanonError.TheVariants as canon
use Rattle.dns_message.proofs.Phrased.{short_reading_by}
use Rattle.dns_command.specs.Outcomes.{RefusesFor}
use Rattle.dns_command.specs.Refusals.{message_error, message_refusal, message_refusal_by, reading_refusal, spelling_refusal_by}
use Rattle.dns_command.specs.Texts.{HasRecords, HasRecordsBy}
use Rattle.dns_command.specs.declared.refusal.Refusal.{Refusal}

module _ {M R : Type 0} (reads : DataReading) (number : M) (refusal : List RecordValue → Option (Refusal M R)) where
  -- a message that is not read whole
  pub reading_refused : (m : List ℕ) (error : CanonError) → RefusedByOrMemory reads m error → RefusesFor (reading_refusal number refusal (message_by reads m)) (message_error number error)
  reading_refused m canon.Short few = ap (reading_refusal number refusal) (short_reading_by reads m few)
  reading_refused m (canon.Item section index) (place, (items, is)) = ap (reading_refusal number refusal) is
  reading_refused m canon.Memory none = tt

  -- a text that spells one
  pub message_refused : (t m : List ℕ) (error : CanonError) → spelled (trim t) ≡ Some m → RefusedByOrMemory reads m error → RefusesFor (message_refusal_by reads number refusal t) (message_error number error)
  message_refused t m canon.Short spells few = ap (spelling_refusal_by reads number refusal) spells ∙ reading_refused m canon.Short few
  message_refused t m (canon.Item section index) spells bad = ap (spelling_refusal_by reads number refusal) spells ∙ reading_refused m (canon.Item section index) bad
  message_refused t m canon.Memory spells none = tt

  -- a valid message is refused by its records
  pub valid_refusal_by : (m : List ℕ) (rs : List RecordValue) → ValidBy reads m rs → reading_refusal number refusal (message_by reads m) ≡ refusal rs
  valid_refusal_by m rs (items, end, is, are) = ap (reading_refusal number refusal) is ∙ ap refusal (sym are)

  pub text_refusal_by : (t : List ℕ) (rs : List RecordValue) → HasRecordsBy reads t rs → message_refusal_by reads number refusal t ≡ refusal rs
  text_refusal_by t rs (m, spells, valid) = ap (spelling_refusal_by reads number refusal) spells ∙ valid_refusal_by m rs valid

pub valid_refusal : {M R : Type 0} (number : M) (refusal : List RecordValue → Option (Refusal M R)) (m : List ℕ) (rs : List RecordValue) → Valid m rs → reading_refusal number refusal (message_reading m) ≡ refusal rs
valid_refusal = valid_refusal_by (data_in name_at)

pub text_refusal : {M R : Type 0} (number : M) (refusal : List RecordValue → Option (Refusal M R)) (t : List ℕ) (rs : List RecordValue) → HasRecords t rs → message_refusal number refusal t ≡ refusal rs
text_refusal = text_refusal_by (data_in name_at)
