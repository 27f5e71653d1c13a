-- Where the next item is among the counted ones.
use Rattle.std.proofs.Common.{◌≡◌, ℕ, zero, suc, ◌+◌, ◌-◌, ◌*◌, ◌<◌, ◌≤◌, List, [], ◌∷◌, ◌++◌, length, get_or, drop, refl, sym, ap, ◌∙◌, subst, arith, slice_index_or}
use Rattle.std.proofs.lemmas.List.{append_assoc, drop-drop, drop_all}
use Rattle.std.proofs.Math.Seq.{drop-append_seam, drop-append-add}
use Rattle.dns_num.specs.declared.number16.U16.{U16}
use Rattle.dns_message.specs.Headers.{counts_seen}
use Rattle.dns_message.specs.Messages.{slots, slots_from, counts_of, counted_slots}
use Rattle.dns_message.specs.declared.header.SectionCounts.{SectionCounts}
use Rattle.dns_message.proofs.SlotLemmas.{slots_turn, slots_around}

-- the places of a section are as many as its count
slots_long : (section index n : ℕ) → length (slots section index n) ≡ n
unfolding slots
slots_long section index zero = refl
slots_long section index (suc n) = ap suc (slots_long section (index + 1) n)

-- the count of a section
pub count_at : (m : List ℕ) (sections : SectionCounts) (counts : List U16) (section : ℕ) → section < 4
    → counts ≡ sections.questions ∷ sections.answers ∷ sections.authorities ∷ sections.additional ∷ [] → counts_seen sections ≡ counts_of m
    → (slice_index_or counts section (record { value = 0 })).value ≡ get_or (counts_of m) section 0
count_at m sections counts zero below is seen = rw is (ap (λ (l : List ℕ). get_or l 0 0) seen)
count_at m sections counts (suc zero) below is seen = rw is (ap (λ (l : List ℕ). get_or l 1 0) seen)
count_at m sections counts (suc (suc zero)) below is seen = rw is (ap (λ (l : List ℕ). get_or l 2 0) seen)
count_at m sections counts (suc (suc (suc zero))) below is seen = rw is (ap (λ (l : List ℕ). get_or l 3 0) seen)
count_at m sections counts (suc (suc (suc (suc section)))) below is seen = absurd (omega arith)

-- That many items were given: what is after them begins in this section, at this index, unless the section has fewer.
pub record PlacedSoFar (m : List ℕ) (given section index : ℕ) : Type 0 where
  pub same : drop given (counted_slots m) ≡ drop index (slots_from section (drop section (counts_of m)))
  pub few : given ≤ index + section * 65535

pub placed_first : (m : List ℕ) (given : ℕ) → PlacedSoFar m given 0 given
placed_first m given = record { same = refl; few = omega arith }

-- a section that has no more
pub placed_later : (m : List ℕ) (given section index count : ℕ) → section < 4 → count ≡ get_or (counts_of m) section 0 → count ≤ index → count < 65536
    → PlacedSoFar m given section index → PlacedSoFar m given (section + 1) (index - count)
placed_later m given section index count below is over fits so =
    let later = slots_from (section + 1) (drop (section + 1) (counts_of m)) in
    let turned = slots_turn (counts_of m) section count (omega arith) is in
    let place : length (slots section 0 count) + (index - count) ≡ index = omega (arith, slots_long section 0 count, over) in
    let trailing : drop index (slots section 0 count ++ later) ≡ drop (index - count) later =
    subst (λ (k : ℕ). drop k (slots section 0 count ++ later) ≡ drop (index - count) later) place (drop-append-add (slots section 0 count) later (index - count)) in
    record { same = so.same ∙ ap (drop index) turned ∙ trailing; few = omega (arith, so.few, over, fits) }

-- a section that has one more
pub placed_here : (m : List ℕ) (given section index count : ℕ) → section < 4 → count ≡ get_or (counts_of m) section 0 → index < count
    → PlacedSoFar m given section index → drop given (counted_slots m) ≡ (section, index) ∷ drop (given + 1) (counted_slots m)
placed_here m given section index count below is under so =
    let later = slots_from (section + 1) (drop (section + 1) (counts_of m)) in
    let prefix = slots section 0 index in
    let back = slots section (index + 1) (count - index - 1) ++ later in
    let turned = slots_turn (counts_of m) section count (omega arith) is in
    let around : slots section 0 count ++ later ≡ prefix ++ ((section, index) ∷ back) =
    ap (λ (l : List (ℕ × ℕ)). l ++ later) (slots_around section count index under) ∙ append_assoc prefix ((section, index) ∷ slots section (index + 1) (count - index - 1)) later in
    let there : drop (length prefix) (prefix ++ ((section, index) ∷ back)) ≡ (section, index) ∷ back = drop-append_seam prefix ((section, index) ∷ back) in
    let here : drop given (counted_slots m) ≡ (section, index) ∷ back =
    so.same ∙ ap (drop index) (turned ∙ around) ∙ subst (λ (k : ℕ). drop k (prefix ++ ((section, index) ∷ back)) ≡ (section, index) ∷ back) (slots_long section 0 index) there in
    let next : drop (given + 1) (counted_slots m) ≡ back = sym (drop-drop 1 given (counted_slots m)) ∙ ap (drop 1) here in
    here ∙ ap (λ (l : List (ℕ × ℕ)). (section, index) ∷ l) (sym next)

-- after the last section
pub placed_last : (m : List ℕ) (given section index : ℕ) → section ≡ 4 → PlacedSoFar m given section index → drop given (counted_slots m) ≡ []
unfolding slots_from
placed_last m given section index last so =
    let none : drop section (counts_of m) ≡ [] = drop_all section (counts_of m) (omega arith) in
    so.same ∙ rw none (drop_all index [] (omega arith))
