-- A text in two parts, at its first LF.
use Rattle.std.proofs.Common.{◌≡◌, ◌≢◌, ℕ, ◌+◌, ◌-◌, ◌<◌, ◌≤◌, ◌==◌, inl, inr, Bool, true, false, cond, List, [], ◌∷◌, ◌++◌, length, length-drop, take, take_all, drop, get_or, zero, suc, refl, sym, ap, ◌∙◌, arith}
use Rattle.std.specs.Prelude.{◌↔◌}
use Rattle.std.proofs.lemmas.Bool.{cases_lt}
use Rattle.std.proofs.lemmas.Bool.Decides.{nat_tests}
use Rattle.dns_canon.specs.Parts.{before_lf, after_lf, HasNoLF, HasParts}

-- ---- where the first LF is

-- no LF is before a place
abbrev pub NoneBefore : List ℕ → ℕ → Type 0
NoneBefore text end = (i : ℕ) → i < end → get_or text i 0 ≢ 10

-- the parts at a place where there is an LF, and none before
parts_cut : (text : List ℕ) (end : ℕ) → end < length text → NoneBefore text end → get_or text end 0 ≡ 10
    → (before_lf text ≡ take end text) × (after_lf text ≡ drop (suc end) text)
unfolding before_lf after_lf
parts_cut [] end within none is = absurd (omega arith)
parts_cut (b ∷ rest) zero within none is = rw is (refl, refl)
parts_cut (b ∷ rest) (suc end) within none is =
    let other : (b == 10) ≡ false = let h = none 0 (omega arith) in grind (arith, nat_tests) in
    let later = parts_cut rest end (omega arith) (λ i below. none (suc i) (omega arith)) is in
    rw other (ap (λ (l : List ℕ). b ∷ l) later.0, later.1)

-- as slices give them
pub parts_at : (text : List ℕ) (end : ℕ) → end < length text → NoneBefore text end → get_or text end 0 ≡ 10
    → (take end text ≡ before_lf text) × (take (length text - (end + 1)) (drop (end + 1) text) ≡ after_lf text)
parts_at text end within none is =
    let cut = parts_cut text end within none is in
    let next : end + 1 ≡ suc end = omega arith in
    (sym cut.0, take_all (length text - (end + 1)) (drop (end + 1) text) (omega (arith, length-drop (end + 1) text)) ∙ ap (λ (n : ℕ). drop n text) next ∙ sym cut.1)

-- if there is none, the first part is the whole
parts_whole : (text : List ℕ) (end : ℕ) → length text ≤ end → NoneBefore text end → (before_lf text ≡ text) × (after_lf text ≡ [])
unfolding before_lf after_lf
parts_whole [] end past none = (refl, refl)
parts_whole (b ∷ rest) zero past none = absurd (omega arith)
parts_whole (b ∷ rest) (suc end) past none =
    let other : (b == 10) ≡ false = let h = none 0 (omega arith) in grind (arith, nat_tests) in
    let later = parts_whole rest end (omega arith) (λ i below. none (suc i) (omega arith)) in
    rw other (ap (λ (l : List ℕ). b ∷ l) later.0, later.1)

pub parts_without : (text : List ℕ) (end : ℕ) → length text ≤ end → NoneBefore text end → (text ≡ before_lf text) × ([] ≡ after_lf text)
parts_without text end past none = let parts = parts_whole text end past none in (sym parts.0, sym parts.1)

-- one more place without LF
pub one_further : (text : List ℕ) (end : ℕ) → NoneBefore text end → get_or text end 0 ≢ 10 → NoneBefore text (end + 1)
one_further text end none other = λ i below. elim (cases_lt i end) [
  | inl before ↦ none i before
  | inr past ↦ (let is : i ≡ end = omega arith in rw is other)
]

-- ---- in words

parts_of : (first second : List ℕ) → HasNoLF first → (before_lf (first ++ 10 ∷ second) ≡ first) × (after_lf (first ++ 10 ∷ second) ≡ second)
unfolding before_lf after_lf
parts_of [] second none = (refl, refl)
parts_of (b ∷ rest) second (here, none) =
    let other : (b == 10) ≡ false = grind (arith, nat_tests) in
    let later = parts_of rest second none in
    rw other (ap (λ (l : List ℕ). b ∷ l) later.0, later.1)

whole_of : (text : List ℕ) → HasNoLF text → (before_lf text ≡ text) × (after_lf text ≡ [])
unfolding before_lf after_lf
whole_of [] none = (refl, refl)
whole_of (b ∷ rest) (here, none) =
    let other : (b == 10) ≡ false = grind (arith, nat_tests) in
    let later = whole_of rest none in
    rw other (ap (λ (l : List ℕ). b ∷ l) later.0, later.1)

-- each text has the parts that are computed
has_parts : (text : List ℕ) → HasParts text (before_lf text) (after_lf text)
unfolding before_lf after_lf
has_parts [] = inr (tt, refl, refl)
has_parts (b ∷ rest) = by (b == 10) refl (has_parts rest) where
  longer : b ≢ 10 → HasParts rest (before_lf rest) (after_lf rest) → HasParts (b ∷ rest) (b ∷ before_lf rest) (after_lf rest)
  longer other (inl (none, is)) = inl ((other, none), ap (λ (l : List ℕ). b ∷ l) is)
  longer other (inr (none, whole, nothing)) = inr ((other, none), ap (λ (l : List ℕ). b ∷ l) whole, nothing)

  by : (test : Bool) → (b == 10) ≡ test → HasParts rest (before_lf rest) (after_lf rest) → HasParts (b ∷ rest) (cond test [] (b ∷ before_lf rest)) (cond test rest (after_lf rest))
  by true e later = let is : b ≡ 10 = grind (arith, nat_tests) in inl (tt, ap (λ (n : ℕ). n ∷ rest) is)
  by false e later = longer (let other : b ≢ 10 = grind (arith, nat_tests) in other) later

pub parts_words : (text first second : List ℕ) → HasParts text first second ↔ ((before_lf text ≡ first) × (after_lf text ≡ second))
parts_words text first second = (into, λ (before, trailing). from before trailing) where
  into : HasParts text first second → (before_lf text ≡ first) × (after_lf text ≡ second)
  into (inl (none, is)) = let parts = parts_of first second none in (ap before_lf is ∙ parts.0, ap after_lf is ∙ parts.1)
  into (inr (none, whole, nothing)) = let parts = whole_of text none in (parts.0 ∙ sym whole, parts.1 ∙ sym nothing)

  from : before_lf text ≡ first → after_lf text ≡ second → HasParts text first second
  from before trailing = rw (← before, ← trailing) (has_parts text)
