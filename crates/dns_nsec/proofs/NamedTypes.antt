-- Which types are among those of windows.
use Rattle.std.proofs.Common.{◌≡◌, ℕ, zero, suc, ◌+◌, ◌-◌, ◌*◌, ◌/◌, ◌%◌, ◌<◌, ◌≤◌, inl, inr, Bool, true, false, cond, List, [], ◌∷◌, ◌++◌, length, drop, get_or, refl, sym, ap, subst, ◌∙◌, arith}
use Rattle.std.specs.Prelude.{◌==◌, ◌↔◌, IsTrue, Contains}
use Rattle.std.proofs.lemmas.Bool.{cases_lt}
use Rattle.std.proofs.lemmas.Bool.Decides.{nat_tests}
use Rattle.dns_record.specs.InPlace.{WindowsFrom}
use Rattle.dns_record.specs.TypeBitMaps.{Window}
use Rattle.dns_nsec.specs.Bitmaps.{bits_of, set_from, window_types, windows_types, windows_in, types_in}
use Rattle.dns_nsec.proofs.WindowBits.{bits_count, past_end}

-- whether a number is in a list
abbrev pub is_in : ℕ → List ℕ → Bool
is_in t [] = false
is_in t (x ∷ xs) = cond (x == t) true (is_in t xs)

pub in_contains : (t : ℕ) (xs : List ℕ) → is_in t xs ≡ true → Contains xs t
in_contains t [] e = absurd cc
in_contains t (x ∷ xs) e = by (x == t) refl e (λ h. in_contains t xs h) where
  by : (b : Bool) → (x == t) ≡ b → cond b true (is_in t xs) ≡ true → (is_in t xs ≡ true → Contains xs t) → Contains (x ∷ xs) t
  by true is h again = (0, omega arith, grind (arith, nat_tests))
  by false is h again = let p = again h in (suc p.0, omega (arith, p.1), p.2)

pub contains_in : (t : ℕ) (xs : List ℕ) (k : ℕ) → k < length xs → get_or xs k t ≡ t → is_in t xs ≡ true
contains_in t [] k lt e = absurd (omega arith)
contains_in t (x ∷ xs) zero lt e =
    let same : (x == t) ≡ true = grind (arith, nat_tests) in
    rw same refl
contains_in t (x ∷ xs) (suc k) lt e = by (x == t) (contains_in t xs k (omega arith) e) where
  by : (b : Bool) → is_in t xs ≡ true → cond b true (is_in t xs) ≡ true
  by true again = refl
  by false again = again

-- a test that answers so is whether the list contains it
pub contains_so : (t : ℕ) (xs : List ℕ) (r : Bool) → is_in t xs ≡ r → IsTrue r ↔ Contains xs t
contains_so t xs r e = (λ h. in_contains t xs (e ∙ h), λ p. sym e ∙ contains_in t xs p.0 p.1 p.2)

pub either_in : (t : ℕ) (xs ys : List ℕ) → is_in t (xs ++ ys) ≡ cond (is_in t xs) true (is_in t ys)
either_in t [] ys = refl
either_in t (x ∷ xs) ys = by (x == t) (either_in t xs ys) where
  by : (b : Bool) → is_in t (xs ++ ys) ≡ cond (is_in t xs) true (is_in t ys) → cond b true (is_in t (xs ++ ys)) ≡ cond (cond b true (is_in t xs)) true (is_in t ys)
  by true again = refl
  by false again = again

-- ---- the numbers of bits

pub below_set : (t n : ℕ) (bits : List ℕ) → t < n → is_in t (set_from n bits) ≡ false
unfolding set_from
below_set t n [] lt = refl
below_set t n (bit ∷ bits) lt = by (bit == 1) (below_set t (suc n) bits (omega arith)) where
  by : (b : Bool) → is_in t (set_from (suc n) bits) ≡ false → is_in t (cond b (n ∷ set_from (suc n) bits) (set_from (suc n) bits)) ≡ false
  by true again =
      let other : (n == t) ≡ false = grind (arith, nat_tests) in
      rw other again
  by false again = again

pub in_set : (n k : ℕ) (bits : List ℕ) → is_in (n + k) (set_from n bits) ≡ (get_or bits k 0 == 1)
unfolding set_from
in_set n k [] = refl
in_set n zero (bit ∷ bits) = by (bit == 1) where
  by : (b : Bool) → is_in (n + 0) (cond b (n ∷ set_from (suc n) bits) (set_from (suc n) bits)) ≡ b
  by true =
      let same : (n == n + 0) ≡ true = grind (arith, nat_tests) in
      rw same refl
  by false = below_set (n + 0) (suc n) bits (omega arith)
in_set n (suc k) (bit ∷ bits) =
    let e : n + suc k ≡ suc n + k = omega arith in
    by (bit == 1) (ap (λ (t : ℕ). is_in t (set_from (suc n) bits)) e ∙ in_set (suc n) k bits) where
      by : (b : Bool) → is_in (n + suc k) (set_from (suc n) bits) ≡ (get_or bits k 0 == 1) → is_in (n + suc k) (cond b (n ∷ set_from (suc n) bits) (set_from (suc n) bits)) ≡ (get_or bits k 0 == 1)
      by true again =
          let other : (n == n + suc k) ≡ false = grind (arith, nat_tests) in
          rw other again
      by false again = again

pub above_set : (t n : ℕ) (bits : List ℕ) → n + length bits ≤ t → is_in t (set_from n bits) ≡ false
above_set t n bits le =
    let e : t ≡ n + (t - n) = omega arith in
    ap (λ (s : ℕ). is_in s (set_from n bits)) e ∙ in_set n (t - n) bits ∙ rw (past_end bits (t - n) (omega arith)) refl

-- ---- windows

pub below_windows : (t least : ℕ) (windows : List Window) → WindowsFrom least windows → t < 256 * least → is_in t (windows_types windows) ≡ false
unfolding windows_types
below_windows t least [] rise lt = refl
below_windows t least (w ∷ others) rise lt =
    either_in t (window_types w) (windows_types others)
    ∙ rw (below_set t (256 * w.number) (bits_of w.bits) (omega (arith, lt, rise.0)), below_windows t (suc w.number) others rise.2 (omega (arith, lt, rise.0))) refl

-- the window of a type is at the start
pub window_hit : (t least : ℕ) (w : Window) (others : List Window) → WindowsFrom least (w ∷ others) → w.number ≡ t / 256 → is_in t (windows_types (w ∷ others)) ≡ (get_or (bits_of w.bits) (t % 256) 0 == 1)
unfolding windows_types
window_hit t least w others rise here =
    let e : t ≡ 256 * w.number + t % 256 = omega (arith, here) in
    let found : is_in t (window_types w) ≡ (get_or (bits_of w.bits) (t % 256) 0 == 1) = ap (λ (s : ℕ). is_in s (window_types w)) e ∙ in_set (256 * w.number) (t % 256) (bits_of w.bits) in
    either_in t (window_types w) (windows_types others)
    ∙ rw (found, below_windows t (suc w.number) others rise.2 (omega (arith, here))) (by (get_or (bits_of w.bits) (t % 256) 0 == 1)) where
      by : (b : Bool) → cond b true false ≡ b
      by true = refl
      by false = refl

-- the window of a type is not at the start
pub window_miss : (t : ℕ) (w : Window) (others : List Window) → length w.bits ≤ 32 → (w.number ≡ t / 256 → ⊥) → is_in t (windows_types (w ∷ others)) ≡ is_in t (windows_types others)
unfolding windows_types
window_miss t w others few other = either_in t (window_types w) (windows_types others) ∙ rw apart refl where
  apart : is_in t (window_types w) ≡ false
  apart = elim (cases_lt t (256 * w.number)) [
    | inl lt ↦ below_set t (256 * w.number) (bits_of w.bits) lt
    | inr le ↦ elim (cases_lt t (256 * w.number + 256)) [
      | inl lt ↦ absurd (other (omega (arith, lt, le)))
      | inr more ↦ above_set t (256 * w.number) (bits_of w.bits) (omega (arith, more, few, bits_count w.bits))
    ]
  ]

-- ---- a bitmap, window by window

pub type_hit : (t : ℕ) (bytes rest : List ℕ) (w : Window) → WindowsFrom 0 (windows_in bytes) → windows_in bytes ≡ w ∷ windows_in rest → w.number ≡ t / 256 → is_in t (types_in bytes) ≡ (get_or (bits_of w.bits) (t % 256) 0 == 1)
unfolding types_in
type_hit t bytes rest w rise e here = ap (λ (l : List Window). is_in t (windows_types l)) e ∙ window_hit t 0 w (windows_in rest) (subst (λ (l : List Window). WindowsFrom 0 l) e rise) here

pub type_miss : (t : ℕ) (bytes rest : List ℕ) (w : Window) → windows_in bytes ≡ w ∷ windows_in rest → length w.bits ≤ 32 → (w.number ≡ t / 256 → ⊥) → is_in t (types_in bytes) ≡ is_in t (types_in rest)
unfolding types_in
type_miss t bytes rest w e few other = ap (λ (l : List Window). is_in t (windows_types l)) e ∙ window_miss t w (windows_in rest) few other

pub type_nowhere : (t : ℕ) (bytes : List ℕ) → windows_in bytes ≡ [] → is_in t (types_in bytes) ≡ false
unfolding types_in windows_types
type_nowhere t bytes e = ap (λ (l : List Window). is_in t (windows_types l)) e

pub no_types : (bytes : List ℕ) → windows_in bytes ≡ [] → types_in bytes ≡ []
unfolding types_in windows_types
no_types bytes e = ap windows_types e

-- ---- what is still to come: bits of a window from a place on, and the windows after it

abbrev pub coming : ℕ → ℕ → List ℕ → List ℕ → List ℕ
coming number place bits rest = set_from (256 * number + place) (drop place (bits_of bits)) ++ types_in rest

pub coming_found : (number from place : ℕ) (bits rest : List ℕ) → set_from (256 * number + from) (drop from (bits_of bits)) ≡ (256 * number + place) ∷ set_from (256 * number + (place + 1)) (drop (place + 1) (bits_of bits)) → coming number from bits rest ≡ (256 * number + place) ∷ coming number (place + 1) bits rest
coming_found number from place bits rest e = ap (λ (l : List ℕ). l ++ types_in rest) e

pub coming_none : (number from : ℕ) (bits rest : List ℕ) → set_from (256 * number + from) (drop from (bits_of bits)) ≡ [] → windows_in rest ≡ [] → coming number from bits rest ≡ []
coming_none number from bits rest e none = rw (e, no_types rest none) refl

pub coming_next : (number from : ℕ) (bits rest later : List ℕ) (w : Window) → set_from (256 * number + from) (drop from (bits_of bits)) ≡ [] → windows_in rest ≡ w ∷ windows_in later → coming number from bits rest ≡ coming w.number 0 w.bits later
unfolding types_in windows_types
coming_next number from bits rest later w e these =
    let first : 256 * w.number + 0 ≡ 256 * w.number = omega arith in
    rw (e, these, first) refl
