-- Messages: the counted items one after another, and the first that is not read (RFC 1035 section 4.1).
use Rattle.dns_wire.specs.Octets.{Octets, Labels}
use Rattle.dns_wire.specs.declared.sizes.TheConstants.{HEADER_SIZE}
use Rattle.std.specs.Prelude.{◌≡◌, ℕ, zero, suc, ◌+◌, ◌*◌, List, [], ◌∷◌, ◌++◌, length, drop, Option, Some, None, nat_lt, slice_index, ◌==◌, if◌then◌else◌}
use Rattle.dns_wire.specs.Pointers.{name_at}
use Rattle.dns_record.specs.FurtherFormats.{DataReading}
use Rattle.dns_record.specs.Data.{data_in}
use Rattle.dns_record.specs.Fields.{Field}
use Rattle.dns_record.specs.Questions.{QuestionOf, question_in}
use Rattle.dns_record.specs.Records.{RecordOf, record_in}
use Rattle.dns_wire.specs.Steps.{first_to}

-- a question, with its name's labels
abbrev pub Question : Type 0
Question = QuestionOf Labels

-- a record, with its owner's labels and its data's fields
abbrev pub RecordValue : Type 0
RecordValue = RecordOf Labels (List Field)

pub data Item : Type 0 where
  QuestionItem : Question → Item
  RecordItem : RecordValue → Item

-- the item at a place in the contents; those of section 0 are questions, and all others are records, whose data are read so
unfoldable pub item_by : DataReading → ℕ → Octets → ℕ → Option (Item × ℕ)
item_by reads section contents at =
    if section == 0 then first_to QuestionItem (question_in name_at contents at)
    else first_to RecordItem (record_in name_at reads contents at)

-- the same with data of the RDATA formats
abbrev pub item_at : ℕ → Octets → ℕ → Option (Item × ℕ)
item_at = item_by (data_in name_at)

-- ---- which items are counted

-- an item's section, and its index among the items of this section
abbrev pub Slot : Type 0
Slot = ℕ × ℕ

abbrev pub slot_section : Slot → ℕ
slot_section slot = slot.0

abbrev pub slot_index : Slot → ℕ
slot_index slot = slot.1

-- the items of a section from an index on
unfoldable pub slots : ℕ → ℕ → ℕ → List Slot
slots section index zero = []
slots section index (suc n) = (section, index) ∷ slots section (index + 1) n

-- those of a section and the sections after it, by their counts
unfoldable pub slots_from : ℕ → List ℕ → List Slot
slots_from section [] = []
slots_from section (count ∷ counts) = slots section 0 count ++ slots_from (section + 1) counts

-- the four counts of the header: questions, answers, authorities and additional records
abbrev pub counts_of : Octets → List ℕ
counts_of m =
    (slice_index m 4 * 256 + slice_index m 5) ∷ (slice_index m 6 * 256 + slice_index m 7)
    ∷ (slice_index m 8 * 256 + slice_index m 9) ∷ (slice_index m 10 * 256 + slice_index m 11) ∷ []

-- the counted items of a message, in order
abbrev pub counted_slots : Octets → List Slot
counted_slots m = slots_from 0 (counts_of m)

-- ---- reading a message

-- A message is shorter than its header; or it is read up to an item, by section and index, at whose place none is read;
-- or it is read whole, up to the place where its items end.
pub data Reading : Type 0 where
  Short : Reading
  Stopped : List Item → ℕ → ℕ → ℕ → Reading
  Whole : List Item → ℕ → Reading

-- an item, and then a reading
abbrev pub with_item : Item → Reading → Reading
with_item item Short = Short
with_item item (Stopped items section index place) = Stopped (item ∷ items) section index place
with_item item (Whole items end) = Whole (item ∷ items) end

-- what is at a place, and what is read after it
abbrev pub then_read : Slot → ℕ → (ℕ → Reading) → Option (Item × ℕ) → Reading
then_read slot at more None = Stopped [] (slot_section slot) (slot_index slot) at
then_read slot at more (Some (item, end)) = with_item item (more end)

-- the items that are counted, one after another from a place on
unfoldable pub reading_by : DataReading → Octets → List Slot → ℕ → Reading
reading_by reads contents [] at = Whole [] at
reading_by reads contents (slot ∷ slots) at = then_read slot at (reading_by reads contents slots) (item_by reads (slot_section slot) contents at)

abbrev pub reading_from : Octets → List Slot → ℕ → Reading
reading_from = reading_by (data_in name_at)

-- what a message is read as; its contents begin after its twelve header octets
unfoldable pub message_by : DataReading → Octets → Reading
message_by reads m = if nat_lt (length m) HEADER_SIZE then Short else reading_by reads (drop HEADER_SIZE m) (counted_slots m) 0

abbrev pub message_reading : Octets → Reading
message_reading = message_by (data_in name_at)

-- the records among some items, in order
abbrev pub records_among : List Item → List RecordValue
records_among [] = []
records_among (QuestionItem q ∷ items) = records_among items
records_among (RecordItem r ∷ items) = r ∷ records_among items

-- the message is read whole, and these are its records
abbrev pub ValidBy : DataReading → Octets → List RecordValue → Type 0
ValidBy reads m rs = (items : List Item) × (end : ℕ) × (message_by reads m ≡ Whole items end) × (rs ≡ records_among items)

abbrev pub Valid : Octets → List RecordValue → Type 0
Valid = ValidBy (data_in name_at)

-- this item of this section is the first that is not read, at this place
abbrev pub StopsBy : DataReading → Octets → ℕ → ℕ → ℕ → Type 0
StopsBy reads m section index place = (items : List Item) × (message_by reads m ≡ Stopped items section index place)

abbrev pub StopsAt : Octets → ℕ → ℕ → ℕ → Type 0
StopsAt = StopsBy (data_in name_at)

-- this item of this section is the first that is not read
abbrev pub BadBy : DataReading → Octets → ℕ → ℕ → Type 0
BadBy reads m section index = (place : ℕ) × StopsBy reads m section index place

abbrev pub BadAt : Octets → ℕ → ℕ → Type 0
BadAt = BadBy (data_in name_at)
