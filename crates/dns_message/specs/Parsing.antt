-- Going over a message item by item. What is seen of a parser is its message, how many items it gave, where in the contents the
-- next one begins, and whether it has ended.
use Rattle.dns_wire.specs.Octets.{Octets, Labels}
use Rattle.dns_wire.specs.declared.sizes.TheConstants.{HEADER_SIZE}
use Rattle.std.specs.Prelude.{◌≡◌, ℕ, ◌+◌, ◌<◌, ◌^◌, suc, List, [], ◌∷◌, ◌++◌, drop, filter, Bool, true, false, Option, Some, None, Result, Ok, Err, IfOk, if◌then◌else◌}
use Rattle.dns_edns.specs.declared.opt.Opt.{Opt}
use Rattle.dns_rdata.specs.declared.record_data.RecordData.{RecordData}
use Rattle.dns_message.specs.Canonical.{is_not_opt}
use Rattle.dns_wire.specs.Pointers.{name_at}
use Rattle.dns_record.specs.Data.{data_in}
use Rattle.dns_record.specs.FurtherFormats.{DataReading}
use Rattle.dns_message.specs.Messages.{Item, RecordValue, Reading, item_at, counted_slots, records_among, Slot, item_by, reading_by}
use Rattle.dns_message.specs.Seen.{item_seen, HasSoundData, IsOfSection}
use Rattle.dns_message.specs.declared.item.MessageItem.{MessageItem}
use Rattle.dns_message.specs.declared.parser.MessageParser.{MessageParser}
use Rattle.dns_message.specs.declared.parser.ItemPosition.{ItemPosition}

-- the octets of its message
abbrev pub parsed_message : MessageParser → Octets
parsed_message p = p.message.slice.now

-- how many items it gave
abbrev pub given_count : MessageParser → ℕ
given_count p = p.given

-- where in the contents the next item begins
abbrev pub next_start : MessageParser → ℕ
next_start p = p.offset

-- whether it has ended
abbrev pub has_ended : MessageParser → Bool
has_ended p = p.ended

-- the counted items that are still to come, each by its section and its index
abbrev pub slots_ahead : MessageParser → List Slot
slots_ahead p = if has_ended p then [] else drop (given_count p) (counted_slots (parsed_message p))

-- what is still read: the items to come, from where the next one begins
abbrev pub ahead_by : DataReading → MessageParser → Reading
ahead_by reads p = reading_by reads (drop HEADER_SIZE (parsed_message p)) (slots_ahead p) (next_start p)

abbrev pub ahead : MessageParser → Reading
ahead = ahead_by (data_in name_at)

-- the next item is the one at this position
abbrev pub IsComing : MessageParser → ℕ → ℕ → Type 0
IsComing p section index =
    (slots_ahead p ≡ (section, index) ∷ drop (given_count p + 1) (counted_slots (parsed_message p))) × (has_ended p ≡ false) × (given_count p < 2 ^ 18)

-- the parser has gone on to the item after the one at this position, which ends there
abbrev pub HasPassed : MessageParser → ℕ → ℕ → ℕ → MessageParser → Type 0
HasPassed old section index end new =
    (slots_ahead old ≡ (section, index) ∷ slots_ahead new) × (next_start new ≡ end) × (given_count new ≡ suc (given_count old))
    × (parsed_message new ≡ parsed_message old)

-- an item with its own names
abbrev pub Parsed : Type 0
Parsed = MessageItem Labels (RecordData Labels) Opt

-- What a call gives, and what it leaves. An item is that which is read at the next place; then one more was given, and the
-- next begins where it ends. An item that is not read is refused once, by its position, and then the parser has ended for good. It
-- gives `None` if none is to come.
abbrev pub GivesNext : {E : Type 0} → MessageParser → Option (ItemPosition × Result Parsed E) → MessageParser → Type 0
GivesNext old None new = (slots_ahead old ≡ []) × (slots_ahead new ≡ []) × (next_start new ≡ next_start old) × (given_count new ≡ given_count old)
GivesNext old (Some (position, Ok item)) new =
    (slots_ahead old ≡ (position.section, position.index) ∷ slots_ahead new)
    × (item_at position.section (drop HEADER_SIZE (parsed_message old)) (next_start old) ≡ Some (item_seen item, next_start new))
    × (given_count new ≡ suc (given_count old))
GivesNext old (Some (position, Err error)) new =
    (later : List Slot) × (slots_ahead old ≡ (position.section, position.index) ∷ later)
    × (item_at position.section (drop HEADER_SIZE (parsed_message old)) (next_start old) ≡ None)
    × (slots_ahead new ≡ []) × (has_ended new ≡ true) × (next_start new ≡ next_start old) × (given_count new ≡ given_count old)

-- The same without the position. The message stays, and an item that is read is one of its section (RFC 1035 section 4.1) with sound
-- data, as all that is read has.
abbrev pub GivesItem : {E : Type 0} → MessageParser → Option (Result Parsed E) → MessageParser → Type 0
GivesItem {E = E} old None new = (parsed_message new ≡ parsed_message old) × GivesNext {E = E} old None new
GivesItem old (Some item) new =
    (parsed_message new ≡ parsed_message old) × IfOk item HasSoundData
    × ((position : ItemPosition) × GivesNext old (Some (position, item)) new × IfOk item (IsOfSection position.section (drop (next_start old) (drop HEADER_SIZE (parsed_message old)))))

-- What an item adds to the records, if it is read up to the end: itself, if it is a record of another type than OPT.
abbrev pub AddsItemBy : DataReading → ℕ → Octets → ℕ → List RecordValue → List RecordValue → Option ℕ → Type 0
AddsItemBy reads section contents start old new None = item_by reads section contents start ≡ None
AddsItemBy reads section contents start old new (Some end) =
    (item : Item) × (item_by reads section contents start ≡ Some (item, end)) × (new ≡ old ++ filter is_not_opt (records_among (item ∷ [])))
