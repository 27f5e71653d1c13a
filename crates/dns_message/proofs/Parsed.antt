-- What a parser gives is what is read in its message.
use Rattle.std.proofs.Common.{◌≡◌, ℕ, ◌≤◌, ltb, false, List, [], ◌∷◌, length, drop, Option, Some, None, Ok, Err, refl, sym, ap, ◌∙◌}
use Rattle.std.proofs.lemmas.Bool.{le-ltb}
use Rattle.dns_wire.specs.Pointers.{name_at}
use Rattle.dns_record.specs.Data.{data_in}
use Rattle.dns_record.specs.FurtherFormats.{DataReading}
use Rattle.dns_message.specs.Messages.{Item, then_read, with_item, reading_from, reading_by, message_by, item_by}
use Rattle.dns_message.specs.Messages.Reading.{Stopped, Whole}
use Rattle.dns_message.specs.Parsing.{parsed_message, given_count, next_start, has_ended, slots_ahead, ahead, Parsed, GivesNext, ahead_by}
use Rattle.dns_message.specs.Seen.{item_seen}
use Rattle.dns_message.specs.declared.parser.MessageParser.{MessageParser}
use Rattle.dns_message.specs.declared.parser.ItemPosition.{ItemPosition}

-- an item, and those after it
pub reads_on : (reads : DataReading) (c : List ℕ) (slots later : List (ℕ × ℕ)) (slot : ℕ × ℕ) (at : ℕ) (read : Option (Item × ℕ)) → slots ≡ slot ∷ later → item_by reads slot.0 c at ≡ read
    → reading_by reads c slots at ≡ then_read slot at (reading_by reads c later) read
unfolding reading_by
reads_on reads c slots later slot at read is e = rw is (ap (then_read slot at (reading_by reads c later)) e)

pub reads_none : (reads : DataReading) (c : List ℕ) (slots : List (ℕ × ℕ)) (at : ℕ) → slots ≡ [] → reading_by reads c slots at ≡ Whole [] at
unfolding reading_by
reads_none reads c slots at is = rw is refl

pub starts : (reads : DataReading) (p : MessageParser) → 12 ≤ length (parsed_message p) → given_count p ≡ 0 → next_start p ≡ 0 → has_ended p ≡ false → ahead_by reads p ≡ message_by reads (parsed_message p)
unfolding message_by
starts reads p long given start ended =
    let fits : ltb (length (parsed_message p)) 12 ≡ false = le-ltb _ _ long in
    rw (fits, given, start, ended) refl

pub gives : (E : Type 0) (old new : MessageParser) (position : ItemPosition) (item : Parsed) → parsed_message new ≡ parsed_message old → GivesNext {E = E} old (Some (position, Ok item)) new → ahead old ≡ with_item (item_seen item) (ahead new)
gives E old new position item unchanged g =
    reads_on (data_in name_at) (drop 12 (parsed_message old)) (slots_ahead old) (slots_ahead new) (position.section, position.index) (next_start old) (Some (item_seen item, next_start new)) g.0 g.1
    ∙ ap (λ (m : List ℕ). with_item (item_seen item) (reading_from (drop 12 m) (slots_ahead new) (next_start new))) (sym unchanged)

pub refuses : {E : Type 0} (old new : MessageParser) (position : ItemPosition) (error : E) → GivesNext old (Some (position, Err error)) new → ahead old ≡ Stopped [] position.section position.index (next_start old)
refuses old new position error g = reads_on (data_in name_at) (drop 12 (parsed_message old)) (slots_ahead old) g.0 (position.section, position.index) (next_start old) None g.1 g.2

pub ends : (E : Type 0) (old new : MessageParser) → GivesNext {E = E} old None new → ahead old ≡ Whole [] (next_start old)
ends E old new g = reads_none (data_in name_at) (drop 12 (parsed_message old)) (slots_ahead old) (next_start old) g.0
