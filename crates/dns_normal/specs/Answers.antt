-- A message in which records are built as answers.
use Rattle.std.specs.Prelude.{◌≡◌, ℕ, ◌+◌, ◌*◌, ◌<◌, ◌≤◌, List, [], length, map, Result, Ok, Err}
use Rattle.std.specs.List.{AllByRecursion}
use Rattle.dns_wire.specs.Octets.{Octets}
use Rattle.dns_wire.specs.Compression.{FitsIn}
use Rattle.dns_wire.specs.Layout.{list_writes}
use Rattle.dns_wire.specs.declared.sizes.TheConstants.{HEADER_SIZE}
use Rattle.dns_message.specs.Building.{Draft, drafted}
use Rattle.dns_message.specs.Built.{built}
use Rattle.dns_message.specs.Canonical.{canonical_wire, lowercase_names}
use Rattle.dns_message.specs.Messages.{Item, RecordValue, message_reading, records_among}
use Rattle.dns_message.specs.Messages.Reading.{Whole}
use Rattle.dns_message.specs.WellFormed.{WellFormed}
use Rattle.dns_message.specs.declared.message.TheConstants.{MAX_MESSAGE_SIZE}
use Rattle.dns_normal.specs.Normal.{answers_header, answers_message}

-- ---- records by their canonical octets

-- well formed records that have these canonical octets, one by one
abbrev pub AreRecordsOf : List Octets → List RecordValue → Type 0
AreRecordsOf lists rs = AllByRecursion WellFormed rs × (map canonical_wire rs ≡ lists)

-- there are such records
abbrev pub HaveRecords : List Octets → Type 0
HaveRecords lists = (rs : List RecordValue) × AreRecordsOf lists rs

-- a well formed record has these canonical octets
abbrev pub IsRecordOf : Octets → Type 0
IsRecordOf octets = (r : RecordValue) × WellFormed r × (canonical_wire r ≡ octets)

-- ---- records as answers

-- The records are the answers in a buffer of `most` octets, and nothing else is in it: their octets are those that are built one after
-- another, and the message is read whole as them, except for ASCII case where it does not count.
pub record HasAnswers (most : ℕ) (rs : List RecordValue) (draft : Draft) : Type 0 where
  pub header : draft.header ≡ answers_header (length rs)
  pub size : draft.size ≡ most
  pub limit : most ≤ MAX_MESSAGE_SIZE
  pub room : HEADER_SIZE + length draft.contents ≤ most
  pub few : 10 * length rs ≤ length draft.contents
  pub octets : list_writes built rs [] [] ≡ (draft.contents, draft.places)
  pub known : FitsIn draft.places draft.contents
  pub items : List Item
  pub read : message_reading (drafted draft) ≡ Whole items (length draft.contents)
  pub alike : map lowercase_names (records_among items) ≡ map lowercase_names rs

-- if they were accepted they are so, and if one was refused they are more octets than the buffer has
abbrev pub HasAnswersIfFew : {A E : Type 0} → ℕ → List RecordValue → Draft → Result A E → Type 0
HasAnswersIfFew most rs draft (Ok done) = HasAnswers most rs draft
HasAnswersIfFew most rs draft (Err error) = most < length (answers_message rs)
