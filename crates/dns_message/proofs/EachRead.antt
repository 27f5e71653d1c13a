-- Each record of a message that is read whole: its data were read.
use Rattle.std.proofs.Common.{◌≡◌, ℕ, ◌-◌, Bool, true, false, cond, List, [], ◌∷◌, length, drop, take, Option, Some, None, refl, sym, subst}
use Rattle.std.specs.Prelude.{◌==◌, nat_lt}
use Rattle.std.specs.List.{All, AllByRecursion}
use Rattle.std.proofs.lemmas.List.Elements.{All-from_recursion}
use Rattle.std.proofs.lemmas.Option.{some_pair_parts}
use Rattle.dns_wire.specs.Pointers.{name_at}
use Rattle.dns_wire.specs.Reading.{plain_at}
use Rattle.dns_wire.specs.ReadingLemmas.{put_some, then_some}
use Rattle.dns_wire.specs.Steps.{first_to}
use Rattle.dns_record.specs.FurtherFormats.{DataReading}
use Rattle.dns_record.specs.Questions.{question_in}
use Rattle.dns_record.specs.Records.{parts_at, record_in, record_of}
use Rattle.dns_message.specs.Messages.{Item, RecordValue, ValidBy, counted_slots, item_by, message_by, reading_by, records_among, then_read}
use Rattle.dns_message.specs.Messages.Item.{QuestionItem, RecordItem}
use Rattle.dns_message.specs.Messages.Reading.{Short, Whole}
use Rattle.dns_message.proofs.FormatSameness.{whole_of}

-- the data of a record were read as those of its type, at some place of some octets
abbrev pub IsReadBy : DataReading → RecordValue → Type 0
IsReadBy reads r = (contents : List ℕ) × (at : ℕ) × (reads r.rtype contents at ≡ Some r.content)

module _ (reads : DataReading) where
  record_read : (contents : List ℕ) (at : ℕ) (r : RecordValue) (end : ℕ) → record_in name_at reads contents at ≡ Some (r, end) → IsReadBy reads r
  unfolding record_in
  record_read contents at r end e =
      let a = then_some (name_at contents at) _ _ e in
      let p = then_some (plain_at parts_at contents a.0.1) _ _ a.2 in
      let start = p.0.1 - length p.0.0.content in
      let v = then_some (reads p.0.0.rtype (take p.0.1 contents) start) _ _ p.2 in
      let same = some_pair_parts (record_of a.0.0 p.0.0 v.0) r p.0.1 end v.2 in
      (take p.0.1 contents, start, subst (λ (x : RecordValue). reads x.rtype (take p.0.1 contents) start ≡ Some x.content) same.0 v.1)

  item_read : (section : ℕ) (contents : List ℕ) (at : ℕ) (r : RecordValue) (end : ℕ) → item_by reads section contents at ≡ Some (RecordItem r, end) → IsReadBy reads r
  unfolding item_by
  item_read section contents at r end e = by (section == 0) e where
    by : (b : Bool) → cond b (first_to QuestionItem (question_in name_at contents at)) (first_to RecordItem (record_in name_at reads contents at)) ≡ Some (RecordItem r, end) → IsReadBy reads r
    by true e = let found = put_some QuestionItem (question_in name_at contents at) (RecordItem r) end e in let other : QuestionItem found.0 ≡ RecordItem r = found.2 in absurd cc
    by false e =
        let found = put_some RecordItem (record_in name_at reads contents at) (RecordItem r) end e in
        let same : found.0 ≡ r = (let is = found.2 in cc) in
        subst (IsReadBy reads) same (record_read contents at found.0 end found.1)

  items_read : (contents : List ℕ) (slots : List (ℕ × ℕ)) (at : ℕ) (items : List Item) (end : ℕ) → reading_by reads contents slots at ≡ Whole items end → AllByRecursion (IsReadBy reads) (records_among items)
  unfolding reading_by
  items_read contents [] at items end e = let none : [] ≡ items = cc in subst (λ (l : List Item). AllByRecursion (IsReadBy reads) (records_among l)) none tt
  items_read contents (slot ∷ slots) at items end e = by (item_by reads slot.0 contents at) refl e (λ next rest is. items_read contents slots next rest end is) where
    one : (item : Item) (next : ℕ) (rest : List Item) → item_by reads slot.0 contents at ≡ Some (item, next) → AllByRecursion (IsReadBy reads) (records_among rest) → AllByRecursion (IsReadBy reads) (records_among (item ∷ rest))
    one (QuestionItem q) next rest is more = more
    one (RecordItem r) next rest is more = (item_read slot.0 contents at r next is, more)

    by : (found : Option (Item × ℕ)) → item_by reads slot.0 contents at ≡ found → then_read slot at (reading_by reads contents slots) found ≡ Whole items end
        → ((next : ℕ) (rest : List Item) → reading_by reads contents slots next ≡ Whole rest end → AllByRecursion (IsReadBy reads) (records_among rest)) → AllByRecursion (IsReadBy reads) (records_among items)
    by None is e more = absurd cc
    by (Some (item, next)) is e more =
        let rest = whole_of item (reading_by reads contents slots next) items end e in
        subst (λ (l : List Item). AllByRecursion (IsReadBy reads) (records_among l)) rest.2 (one item next rest.0 is (more next rest.0 rest.1))

  whole_read : (m : List ℕ) (items : List Item) (end : ℕ) → message_by reads m ≡ Whole items end → AllByRecursion (IsReadBy reads) (records_among items)
  unfolding message_by
  whole_read m items end e = by (nat_lt (length m) 12) e where
    by : (b : Bool) → cond b Short (reading_by reads (drop 12 m) (counted_slots m) 0) ≡ Whole items end → AllByRecursion (IsReadBy reads) (records_among items)
    by true e = absurd cc
    by false e = items_read (drop 12 m) (counted_slots m) 0 items end e

  pub each_read : (m : List ℕ) (rs : List RecordValue) → ValidBy reads m rs → All (IsReadBy reads) rs
  each_read m rs (items, end, read, is) = subst (All (IsReadBy reads)) (sym is) (All-from_recursion (IsReadBy reads) (records_among items) (whole_read m items end read))
