-- Several messages, one after another.
use Rattle.std.specs.Prelude.{◌≡◌, ℕ, List, [], ◌∷◌, ◌++◌, flat_map, length}
use Rattle.dns_wire.specs.Octets.{Octets}
use Rattle.dns_wire.specs.Pointers.{name_at}
use Rattle.dns_record.specs.Data.{data_in}
use Rattle.dns_record.specs.FurtherFormats.{DataReading}
use Rattle.dns_message.specs.Messages.{Reading, RecordValue, ValidBy, message_by, records_among}
use Rattle.dns_message.specs.Messages.Reading.{Whole}
use Rattle.dns_message.specs.Refusals.{RefusedBy}
use Rattle.dns_message.specs.declared.canon_error.CanonError.{CanonError}

-- the records of a message that is read whole; none of any other
abbrev pub records_read : Reading → List RecordValue
records_read (Whole items end) = records_among items
records_read reading = []

-- the records of messages, in order
abbrev pub all_records_by : DataReading → List Octets → List RecordValue
all_records_by reads messages = flat_map (λ m. records_read (message_by reads m)) messages

-- the same with data of the RDATA formats
abbrev pub all_records : List Octets → List RecordValue
all_records = all_records_by (data_in name_at)

-- each message is valid, with these records
abbrev pub AreValidBy : DataReading → List Octets → List (List RecordValue) → Type 0
AreValidBy reads [] [] = Unit {0}
AreValidBy reads (m ∷ messages) (rs ∷ rss) = ValidBy reads m rs × AreValidBy reads messages rss
AreValidBy reads [] (rs ∷ rss) = ⊥
AreValidBy reads (m ∷ messages) [] = ⊥

abbrev pub AreValid : List Octets → List (List RecordValue) → Type 0
AreValid = AreValidBy (data_in name_at)

-- the message of this number, from 0, is refused so, and all before it are valid
pub record IsFirstRefusedBy (reads : DataReading) (messages : List Octets) (number : ℕ) (error : CanonError) : Type 0 where
  pub before : List Octets
  pub message : Octets
  pub after : List Octets
  pub occurs : messages ≡ before ++ message ∷ after
  pub place : length before ≡ number
  pub records : List (List RecordValue)
  pub valid : AreValidBy reads before records
  pub refused : RefusedBy reads message error

abbrev pub IsFirstRefused : List Octets → ℕ → CanonError → Type 0
IsFirstRefused = IsFirstRefusedBy (data_in name_at)
