-- The places of the counted items, and items one after another.
use Rattle.std.proofs.Common.{◌≡◌, ℕ, zero, suc, ◌+◌, ◌-◌, ◌<◌, List, [], ◌∷◌, ◌++◌, length, get_or, drop, refl, sym, ap, ◌∙◌, subst, arith, add-zero, add-one, drop-cons}
use Rattle.dns_message.specs.Messages.{Item, RecordValue, slots, slots_from, records_among}
use Rattle.dns_message.specs.Messages.Item.{QuestionItem, RecordItem}
use Rattle.dns_message.specs.Worded.{ItemsAt}

-- ---- lists of places and of items

-- one more place of a section
slots_suc : (section index n : ℕ) → slots section index (suc n) ≡ slots section index n ++ (section, index + n) ∷ []
unfolding slots
slots_suc section index zero = ap (λ (k : ℕ). (section, k) ∷ []) (sym (add-zero index))
slots_suc section index (suc n) =
    ap (λ (l : List (ℕ × ℕ)). (section, index) ∷ l) (slots_suc section (index + 1) n)
    ∙ ap (λ (k : ℕ). (section, index) ∷ (slots section (index + 1) n ++ (section, k) ∷ [])) (omega arith)

pub slots_more : (section index n : ℕ) → slots section index (n + 1) ≡ slots section index n ++ (section, index + n) ∷ []
slots_more section index n = rw add-one (slots_suc section index n)

pub items_append : (c : List ℕ) (before after : List (ℕ × ℕ)) (at : ℕ) (items others : List Item) (middle end : ℕ)
    → ItemsAt c before at items middle → ItemsAt c after middle others end → ItemsAt c (before ++ after) at (items ++ others) end
items_append c [] after at items others middle end first second =
    let here : ItemsAt c after at others end = subst (λ (p : ℕ). ItemsAt c after p others end) first.1 second in
    subst (λ (l : List Item). ItemsAt c after at (l ++ others) end) (sym first.0) here
items_append c (slot ∷ before) after at items others middle end (item, next, more, here, is, later) second =
    (item, next, more ++ others, here, ap (λ (l : List Item). l ++ others) is, items_append c before after next more others middle end later second)

pub among_append : (items others : List Item) → records_among (items ++ others) ≡ records_among items ++ records_among others
among_append [] others = refl
among_append (QuestionItem q ∷ items) others = among_append items others
among_append (RecordItem r ∷ items) others = ap (λ (l : List RecordValue). r ∷ l) (among_append items others)

-- ---- the counts

-- the places of a section, and those after it
pub slots_turn : (counts : List ℕ) (section count : ℕ) → section < length counts → count ≡ get_or counts section 0
    → slots_from section (drop section counts) ≡ slots section 0 count ++ slots_from (section + 1) (drop (section + 1) counts)
unfolding slots_from
slots_turn counts section count within is =
    let there : drop section counts ≡ count ∷ drop (section + 1) counts = rw (add-one, is) (drop-cons counts section 0 within) in
    ap (slots_from section) there

-- the places of a section around one of them
pub slots_split : (section first count index : ℕ) → index < count → slots section first count ≡ slots section first index ++ (section, first + index) ∷ slots section (first + index + 1) (count - index - 1)
unfolding slots
slots_split section first zero index below = absurd (omega arith)
slots_split section first (suc count) zero below =
    let same : first + 0 ≡ first = omega arith in
    let left : suc count - 0 - 1 ≡ count = omega arith in
    rw (same, left) refl
slots_split section first (suc count) (suc index) below =
    let place : first + 1 + index ≡ first + suc index = omega arith in
    let left : count - index - 1 ≡ suc count - suc index - 1 = omega arith in
    ap (λ (l : List (ℕ × ℕ)). (section, first) ∷ l) (slots_split section (first + 1) count index (omega arith) ∙ rw (place, left) refl)

pub slots_around : (section count index : ℕ) → index < count → slots section 0 count ≡ slots section 0 index ++ (section, index) ∷ slots section (index + 1) (count - index - 1)
slots_around section count index below =
    let place : 0 + index ≡ index = omega arith in
    subst (λ (k : ℕ). slots section 0 count ≡ slots section 0 index ++ (section, k) ∷ slots section (k + 1) (count - index - 1)) place (slots_split section 0 count index below)
