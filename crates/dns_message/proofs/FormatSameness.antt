-- A message without records of the further types is read alike by both tables of formats.
use Rattle.std.proofs.Common.{◌≡◌, ℕ, ◌-◌, Bool, true, false, cond, List, [], ◌∷◌, length, drop, take, Option, Some, None, refl, sym, ap, subst, ◌∙◌}
use Rattle.std.specs.Prelude.{◌↔◌, ◌==◌, nat_lt}
use Rattle.std.specs.List.{All, AllByRecursion}
use Rattle.std.proofs.lemmas.List.Elements.{recursion_from_All}
use Rattle.std.proofs.lemmas.Option.{some_pair_parts}
use Rattle.dns_wire.specs.Pointers.{name_at}
use Rattle.dns_wire.specs.Reading.{plain_at}
use Rattle.dns_wire.specs.ReadingLemmas.{put_some, then_some}
use Rattle.dns_wire.specs.Steps.{first_to}
use Rattle.dns_record.specs.Data.{data_in}
use Rattle.dns_record.specs.FurtherFormats.{DataReading, data_by, data_or, further_by}
use Rattle.dns_record.specs.Kinds.{Kind}
use Rattle.dns_record.specs.Questions.{question_in}
use Rattle.dns_record.specs.Records.{parts_at, record_in, record_of}
use Rattle.dns_record.specs.declared.formats.Formats.TheVariants.{Listed}
use Rattle.dns_message.specs.Messages.{Item, Reading, RecordValue, Valid, ValidBy, counted_slots, item_by, message_by, reading_by, records_among, then_read, with_item}
use Rattle.dns_message.specs.Messages.Item.{QuestionItem, RecordItem}
use Rattle.dns_message.specs.Messages.Reading.{Short, Stopped, Whole}

-- ---- two readings of data that are one for a type

abbrev Agree : DataReading → DataReading → ℕ → Type 0
Agree reads others rtype = (c : List ℕ) (p : ℕ) → reads rtype c p ≡ others rtype c p

record_alike : (reads others : DataReading) (contents : List ℕ) (at : ℕ) (r : RecordValue) (end : ℕ) → record_in name_at reads contents at ≡ Some (r, end) → Agree reads others r.rtype → record_in name_at others contents at ≡ Some (r, end)
unfolding record_in
record_alike reads others contents at r end e agree =
    let a = then_some (name_at contents at) _ _ e in
    let p = then_some (plain_at parts_at contents a.0.1) _ _ a.2 in
    let parts = p.0.0 in
    let start = p.0.1 - length parts.content in
    let v = then_some (reads parts.rtype (take p.0.1 contents) start) _ _ p.2 in
    let same = some_pair_parts (record_of a.0.0 parts v.0) r p.0.1 end v.2 in
    let here : Agree reads others parts.rtype = subst (Agree reads others) (sym (ap (λ (found : RecordValue). found.rtype) same.0)) agree in
    let other : others parts.rtype (take p.0.1 contents) start ≡ Some v.0 = sym (here (take p.0.1 contents) start) ∙ v.1 in
    rw (a.1, p.1, other) v.2

abbrev ItemAgrees : DataReading → DataReading → Item → Type 0
ItemAgrees reads others (QuestionItem q) = Unit {0}
ItemAgrees reads others (RecordItem r) = Agree reads others r.rtype

item_alike : (reads others : DataReading) (section : ℕ) (contents : List ℕ) (at : ℕ) (item : Item) (end : ℕ) → item_by reads section contents at ≡ Some (item, end) → ItemAgrees reads others item → item_by others section contents at ≡ Some (item, end)
unfolding item_by
item_alike reads others section contents at item end e agrees = by (section == 0) refl e where
  by : (b : Bool) → (section == 0) ≡ b → cond b (first_to QuestionItem (question_in name_at contents at)) (first_to RecordItem (record_in name_at reads contents at)) ≡ Some (item, end) → item_by others section contents at ≡ Some (item, end)
  by true is e = rw is e
  by false is e =
      let read = put_some RecordItem (record_in name_at reads contents at) item end e in
      let agree : ItemAgrees reads others (RecordItem read.0) = subst (ItemAgrees reads others) (sym read.2) agrees in
      rw is (ap (first_to RecordItem) (record_alike reads others contents at read.0 end read.1 agree) ∙ ap (λ (i : Item). Some (i, end)) read.2)

-- ---- a message

pub whole_of : (item : Item) (reading : Reading) (items : List Item) (end : ℕ) → with_item item reading ≡ Whole items end → (rest : List Item) × (reading ≡ Whole rest end) × (item ∷ rest ≡ items)
whole_of item Short items end e = absurd cc
whole_of item (Stopped rest section index place) items end e = absurd cc
whole_of item (Whole rest last) items end e =
    let there : last ≡ end = cc in
    let is : item ∷ rest ≡ items = cc in
    (rest, ap (Whole rest) there, is)

reading_alike : (reads others : DataReading) (contents : List ℕ) (slots : List (ℕ × ℕ)) (at : ℕ) (items : List Item) (end : ℕ) → reading_by reads contents slots at ≡ Whole items end → AllByRecursion (ItemAgrees reads others) items → reading_by others contents slots at ≡ Whole items end
unfolding reading_by
reading_alike reads others contents [] at items end e agree = e
reading_alike reads others contents (slot ∷ slots) at items end e agree = by (item_by reads slot.0 contents at) refl e (λ next rest is agrees. reading_alike reads others contents slots next rest end is agrees) where
  by : (found : Option (Item × ℕ)) → item_by reads slot.0 contents at ≡ found → then_read slot at (reading_by reads contents slots) found ≡ Whole items end
      → ((next : ℕ) (rest : List Item) → reading_by reads contents slots next ≡ Whole rest end → AllByRecursion (ItemAgrees reads others) rest → reading_by others contents slots next ≡ Whole rest end)
      → reading_by others contents (slot ∷ slots) at ≡ Whole items end
  by None is e again = absurd cc
  by (Some (item, next)) is e again =
      let rest = whole_of item (reading_by reads contents slots next) items end e in
      let agrees : AllByRecursion (ItemAgrees reads others) (item ∷ rest.0) = subst (AllByRecursion (ItemAgrees reads others)) (sym rest.2) agree in
      rw (item_alike reads others slot.0 contents at item next is agrees.0) (ap (with_item item) (again next rest.0 rest.1 agrees.1) ∙ ap (λ (l : List Item). Whole l end) rest.2)

message_alike : (reads others : DataReading) (m : List ℕ) (items : List Item) (end : ℕ) → message_by reads m ≡ Whole items end → AllByRecursion (ItemAgrees reads others) items → message_by others m ≡ Whole items end
unfolding message_by
message_alike reads others m items end e agree = by (nat_lt (length m) 12) refl e where
  by : (b : Bool) → nat_lt (length m) 12 ≡ b → cond b Short (reading_by reads (drop 12 m) (counted_slots m) 0) ≡ Whole items end → message_by others m ≡ Whole items end
  by true is e = absurd cc
  by false is e = rw is (reading_alike reads others (drop 12 m) (counted_slots m) 0 items end e agree)

-- ---- both tables

among : (reads others : DataReading) (items : List Item) → ((rtype : ℕ) → further_by Listed rtype ≡ None → Agree reads others rtype) → AllByRecursion (λ (r : RecordValue). further_by Listed r.rtype ≡ None) (records_among items) → AllByRecursion (ItemAgrees reads others) items
among reads others [] agree none = tt
among reads others (QuestionItem q ∷ items) agree none = (tt, among reads others items agree none)
among reads others (RecordItem r ∷ items) agree none = (agree r.rtype none.0, among reads others items agree none.1)

listed_usual : (rtype : ℕ) → further_by Listed rtype ≡ None → Agree (data_by Listed) (data_in name_at) rtype
listed_usual rtype none = λ c p. ap (λ (o : Option (List Kind)). data_or o rtype c p) none

usual_listed : (rtype : ℕ) → further_by Listed rtype ≡ None → Agree (data_in name_at) (data_by Listed) rtype
usual_listed rtype none = λ c p. sym (listed_usual rtype none c p)

none_among : (rs : List RecordValue) (items : List Item) → All (λ (r : RecordValue). further_by Listed r.rtype ≡ None) rs → rs ≡ records_among items → AllByRecursion (λ (r : RecordValue). further_by Listed r.rtype ≡ None) (records_among items)
none_among rs items none is = recursion_from_All (λ (r : RecordValue). further_by Listed r.rtype ≡ None) (records_among items) (subst (All (λ (r : RecordValue). further_by Listed r.rtype ≡ None)) is none)

pub formats_alike : (m : List ℕ) (rs : List RecordValue) → All (λ (r : RecordValue). further_by Listed r.rtype ≡ None) rs → ValidBy (data_by Listed) m rs ↔ Valid m rs
formats_alike m rs none = (
  λ (items, end, read, is). (items, end, message_alike (data_by Listed) (data_in name_at) m items end read (among (data_by Listed) (data_in name_at) items listed_usual (none_among rs items none is)), is),
  λ (items, end, read, is). (items, end, message_alike (data_in name_at) (data_by Listed) m items end read (among (data_in name_at) (data_by Listed) items usual_listed (none_among rs items none is)), is),
)
