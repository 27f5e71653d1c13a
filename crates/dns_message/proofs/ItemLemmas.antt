-- What is read as an item is a question or a record that is there.
use Rattle.std.proofs.Common.{◌≡◌, ℕ, ◌<◌, Bool, true, false, cond, List, Option, Some, None, refl, sym, ap, ◌∙◌, arith}
use Rattle.std.specs.Prelude.{◌↔◌, ◌==◌}
use Rattle.std.proofs.lemmas.Bool.Decides.{nat_tests}
use Rattle.std.proofs.lemmas.Option.{some_pair_parts}
use Rattle.dns_wire.specs.Pointers.{name_at}
use Rattle.dns_wire.specs.Steps.{first_to}
use Rattle.dns_record.specs.Data.{data_in}
use Rattle.dns_record.specs.InPlace.{QuestionAt, RecordAt}
use Rattle.dns_record.specs.Questions.{question_in}
use Rattle.dns_record.specs.Records.{record_in}
use Rattle.dns_record.proofs.Worded.{question_is, question_found, record_is, record_found}
use Rattle.dns_message.specs.Messages.{Item, RecordValue, Question, item_at, item_by}
use Rattle.dns_message.specs.Messages.Item.{QuestionItem, RecordItem}
use Rattle.dns_message.specs.Worded.{ItemAt, NoItemAt}

-- ---- items

record_item_is : (read : Option (RecordValue × ℕ)) (r : RecordValue) (end : ℕ) → (first_to RecordItem read ≡ Some (RecordItem r, end)) ↔ (read ≡ Some (r, end))
record_item_is None r end = (λ e. absurd cc, λ e. absurd cc)
record_item_is (Some (s, last)) r end = (
  λ e. (let parts = some_pair_parts (RecordItem s) (RecordItem r) last end e in both (inner parts.0) parts.1),
  λ e. ap (first_to RecordItem) e,
) where
  inner : RecordItem s ≡ RecordItem r → s ≡ r
  inner e = cc

  both : s ≡ r → last ≡ end → ◌≡◌ {A = Option (RecordValue × ℕ)} (Some (s, last)) (Some (r, end))
  both e h = rw (e, h) refl

question_item_is : (read : Option (Question × ℕ)) (q : Question) (end : ℕ) → (first_to QuestionItem read ≡ Some (QuestionItem q, end)) ↔ (read ≡ Some (q, end))
question_item_is None q end = (λ e. absurd cc, λ e. absurd cc)
question_item_is (Some (s, last)) q end = (
  λ e. (let parts = some_pair_parts (QuestionItem s) (QuestionItem q) last end e in both (inner parts.0) parts.1),
  λ e. ap (first_to QuestionItem) e,
) where
  inner : QuestionItem s ≡ QuestionItem q → s ≡ q
  inner e = cc

  both : s ≡ q → last ≡ end → ◌≡◌ {A = Option (Question × ℕ)} (Some (s, last)) (Some (q, end))
  both e h = rw (e, h) refl

pub question_occurs : (contents : List ℕ) (at : ℕ) (q : Question) (end : ℕ) → (item_at 0 contents at ≡ Some (QuestionItem q, end)) ↔ QuestionAt contents at q end
unfolding item_by
question_occurs contents at q end =
    let same = question_item_is (question_in name_at contents at) q end in
    (λ e. question_is contents at q end (same.0 e), λ h. same.1 (question_found contents at q end h))

pub record_occurs : (section : ℕ) (contents : List ℕ) (at : ℕ) (r : RecordValue) (end : ℕ) → 0 < section → (item_at section contents at ≡ Some (RecordItem r, end)) ↔ RecordAt contents at r end
unfolding item_by
record_occurs section contents at r end some =
    let later : (section == 0) ≡ false = grind (arith, nat_tests) in
    let same = record_item_is (record_in name_at (data_in name_at) contents at) r end in
    rw later (λ e. record_is contents at r end (same.0 e), λ h. same.1 (record_found contents at r end h))

-- ---- any item

question_item_later : (read : Option (RecordValue × ℕ)) (q : Question) (end : ℕ) → first_to RecordItem read ≡ Some (QuestionItem q, end) → ⊥
question_item_later None q end e = cc
question_item_later (Some (r, last)) q end e = let same = some_pair_parts (RecordItem r) (QuestionItem q) last end e in cc

record_item_first : (read : Option (Question × ℕ)) (r : RecordValue) (end : ℕ) → first_to QuestionItem read ≡ Some (RecordItem r, end) → ⊥
record_item_first None r end e = cc
record_item_first (Some (q, last)) r end e = let same = some_pair_parts (QuestionItem q) (RecordItem r) last end e in cc

-- a question is read in section 0 alone, and a record in the later ones
question_item_there : (section : ℕ) (contents : List ℕ) (at : ℕ) (q : Question) (end : ℕ) → item_at section contents at ≡ Some (QuestionItem q, end) → section ≡ 0
unfolding item_by
question_item_there section contents at q end e = by (section == 0) refl e where
  by : (b : Bool) → (section == 0) ≡ b → cond b (first_to QuestionItem (question_in name_at contents at)) (first_to RecordItem (record_in name_at (data_in name_at) contents at)) ≡ Some (QuestionItem q, end) → section ≡ 0
  by true is e = grind (arith, nat_tests)
  by false is e = absurd (question_item_later (record_in name_at (data_in name_at) contents at) q end e)

record_item_there : (section : ℕ) (contents : List ℕ) (at : ℕ) (r : RecordValue) (end : ℕ) → item_at section contents at ≡ Some (RecordItem r, end) → 0 < section
unfolding item_by
record_item_there section contents at r end e = by (section == 0) refl e where
  by : (b : Bool) → (section == 0) ≡ b → cond b (first_to QuestionItem (question_in name_at contents at)) (first_to RecordItem (record_in name_at (data_in name_at) contents at)) ≡ Some (RecordItem r, end) → 0 < section
  by true is e = absurd (record_item_first (question_in name_at contents at) r end e)
  by false is e = grind (arith, nat_tests)

pub item_is : (section : ℕ) (contents : List ℕ) (at : ℕ) (item : Item) (end : ℕ) → item_at section contents at ≡ Some (item, end) → ItemAt section contents at item end
item_is section contents at (QuestionItem q) end e =
    let first = question_item_there section contents at q end e in
    (first, (question_occurs contents at q end).0 (ap (λ (s : ℕ). item_at s contents at) (sym first) ∙ e))
item_is section contents at (RecordItem r) end e =
    let later = record_item_there section contents at r end e in
    (later, (record_occurs section contents at r end later).0 e)

pub item_found : (section : ℕ) (contents : List ℕ) (at : ℕ) (item : Item) (end : ℕ) → ItemAt section contents at item end → item_at section contents at ≡ Some (item, end)
item_found section contents at (QuestionItem q) end is = ap (λ (s : ℕ). item_at s contents at) is.0 ∙ (question_occurs contents at q end).1 is.1
item_found section contents at (RecordItem r) end is = (record_occurs section contents at r end is.0).1 is.1

pub items_one : (section : ℕ) (contents : List ℕ) (at : ℕ) (item other : Item) (end last : ℕ) → ItemAt section contents at item end → ItemAt section contents at other last → (item ≡ other) × (end ≡ last)
items_one section contents at item other end last is also =
    some_pair_parts item other end last (sym (item_found section contents at item end is) ∙ item_found section contents at other last also)

-- no item is there if none is read
pub none_is : (section : ℕ) (contents : List ℕ) (at : ℕ) → item_at section contents at ≡ None → NoItemAt section contents at
none_is section contents at e item end is = let h = sym e ∙ item_found section contents at item end is in cc

pub none_found : (section : ℕ) (contents : List ℕ) (at : ℕ) → NoItemAt section contents at → item_at section contents at ≡ None
none_found section contents at none = by (item_at section contents at) refl where
  by : (read : Option (Item × ℕ)) → item_at section contents at ≡ read → read ≡ None
  by None e = refl
  by (Some (item, end)) e = absurd (none item end (item_is section contents at item end e))
