-- Each strictly rising list of types has a bitmap: from the last type on, the bit of each is set in its window.
use mir.Val.{bits}
use Rattle.std.proofs.Common.{◌≡◌, ◌≢◌, ℕ, zero, suc, ◌+◌, ◌-◌, ◌*◌, ◌/◌, ◌%◌, ◌^◌, ◌<◌, ◌≤◌, inl, inr, Bool, true, false, cond, List, [], ◌∷◌, ◌++◌, length, get_or, refl, sym, ap, subst, ◌∙◌, arith}
use Rattle.std.specs.Prelude.{◌==◌, bit_or}
use Rattle.std.specs.Int.{w8, bit_at}
use Rattle.std.specs.List.Sorted.{IsStrictlyIncreasing}
use Rattle.std.proofs.lemmas.Bool.{cases_lt}
use Rattle.std.proofs.lemmas.Bool.Decides.{nat_tests}
use Rattle.std.proofs.lemmas.Nat.{or_lt}
use Rattle.std.proofs.lemmas.Nat.Bits.{bit_at_set_same, bit_at_set_other, bit_at-zero}
use Rattle.dns_wire.specs.Reading.{AreOctets}
use Rattle.dns_record.specs.InPlace.{AreWindows, WindowsFrom, AreBits}
use Rattle.dns_record.specs.TypeBitMaps.{Window, is_bitmap, windows_octets}
use Rattle.dns_record.proofs.Bitmaps.{is_this_bitmap}
use Rattle.dns_nsec.specs.Bitmaps.{bits_of, set_from, window_types, windows_types, windows_in, types_in}
use Rattle.dns_nsec.proofs.WindowBits.{bit_of}
use Rattle.dns_nsec.proofs.NamedTypes.{is_in, either_in, below_set, in_set}
use Rattle.dns_nsec.proofs.Parted.{windows_these, from_less}
use Rattle.dns_nsec.proofs.RisingTypes.{RisesFrom, lower_from, windows_rise_from}

-- ---- one bit more in octets

abbrev put : ℕ → ℕ → List ℕ → List ℕ
put zero b [] = bit_or 0 b ∷ []
put zero b (o ∷ os) = bit_or o b ∷ os
put (suc i) b [] = 0 ∷ put i b []
put (suc i) b (o ∷ os) = o ∷ put i b os

put_here : (i b : ℕ) (os : List ℕ) → get_or (put i b os) i 0 ≡ bit_or (get_or os i 0) b
put_here zero b [] = refl
put_here zero b (o ∷ os) = refl
put_here (suc i) b [] = put_here i b []
put_here (suc i) b (o ∷ os) = put_here i b os

put_there : (i k b : ℕ) (os : List ℕ) → k ≢ i → get_or (put i b os) k 0 ≡ get_or os k 0
put_there zero zero b os apart = absurd (apart refl)
put_there zero (suc k) b [] apart = refl
put_there zero (suc k) b (o ∷ os) apart = refl
put_there (suc i) zero b [] apart = refl
put_there (suc i) zero b (o ∷ os) apart = refl
put_there (suc i) (suc k) b [] apart = put_there i k b [] (λ e. apart (ap suc e))
put_there (suc i) (suc k) b (o ∷ os) apart = put_there i k b os (λ e. apart (ap suc e))

put_octets : (i b : ℕ) (os : List ℕ) → b < 256 → AreOctets os → AreOctets (put i b os)
put_octets zero b [] lt all zero = or_lt 8 0 b (omega arith) lt
put_octets zero b [] lt all (suc k) = omega arith
put_octets zero b (o ∷ os) lt all zero = or_lt 8 o b (all 0) lt
put_octets zero b (o ∷ os) lt all (suc k) = all (suc k)
put_octets (suc i) b [] lt all zero = omega arith
put_octets (suc i) b [] lt all (suc k) = put_octets i b [] lt (λ j. omega arith) k
put_octets (suc i) b (o ∷ os) lt all zero = all 0
put_octets (suc i) b (o ∷ os) lt all (suc k) = put_octets i b os lt (λ j. all (suc j)) k

-- the bit of a place
abbrev weight : ℕ → ℕ
weight place = 1 * 2 ^ (7 - place % 8) % 2 ^ bits w8

abbrev marked_at : ℕ → List ℕ → List ℕ
marked_at place os = put (place / 8) (weight place) os

same_bit : (place : ℕ) (os : List ℕ) → get_or (bits_of (marked_at place os)) place 0 ≡ 1
same_bit place os =
    bit_of (marked_at place os) place
    ∙ ap (λ (o : ℕ). o / 2 ^ (7 - place % 8) % 2) (put_here (place / 8) (weight place) os)
    ∙ bit_at_set_same w8 (get_or os (place / 8) 0) (7 - place % 8) (omega arith)

other_bit : (place k : ℕ) (os : List ℕ) → k ≢ place → get_or (bits_of (marked_at place os)) k 0 ≡ get_or (bits_of os) k 0
other_bit place k os apart = bit_of (marked_at place os) k ∙ by (k / 8 == place / 8) refl ∙ sym (bit_of os k) where
  by : (b : Bool) → (k / 8 == place / 8) ≡ b → get_or (marked_at place os) (k / 8) 0 / 2 ^ (7 - k % 8) % 2 ≡ get_or os (k / 8) 0 / 2 ^ (7 - k % 8) % 2
  by true is =
      let here : k / 8 ≡ place / 8 = grind (arith, nat_tests) in
      let far : 7 - k % 8 ≢ 7 - place % 8 = λ e. apart (omega (arith, e, here)) in
      ap (λ (i : ℕ). get_or (marked_at place os) i 0 / 2 ^ (7 - k % 8) % 2) here
      ∙ ap (λ (o : ℕ). o / 2 ^ (7 - k % 8) % 2) (put_here (place / 8) (weight place) os)
      ∙ bit_at_set_other w8 (get_or os (place / 8) 0) (7 - place % 8) (omega arith) (7 - k % 8) far
      ∙ ap (λ (i : ℕ). get_or os i 0 / 2 ^ (7 - k % 8) % 2) (sym here)
  by false is =
      let far : k / 8 ≢ place / 8 = λ e. absurd (grind (arith, nat_tests)) in
      ap (λ (o : ℕ). o / 2 ^ (7 - k % 8) % 2) (put_there (place / 8) (k / 8) (weight place) os far)

-- ---- one type more in windows

abbrev with_type : ℕ → Window → Window
with_type t w = record { number = w.number; bits = marked_at (t % 256) w.bits }

abbrev no_bits : ℕ → Window
no_bits t = record { number = t / 256; bits = [] }

to_apart : (m n : ℕ) → (m == n) ≡ false → m ≢ n
to_apart m n is e = absurd (grind (arith, nat_tests))

to_same : (m n : ℕ) → (m == n) ≡ true → m ≡ n
to_same m n is = grind (arith, nat_tests)

from_apart : (m n : ℕ) → m ≢ n → (m == n) ≡ false
from_apart m n apart = grind (arith, nat_tests)

one_more : (t s : ℕ) (w : Window) → w.number ≡ t / 256 → is_in s (window_types (with_type t w)) ≡ cond (t == s) true (is_in s (window_types w))
one_more t s w here = elim (cases_lt s (256 * w.number)) [
  | inl lt ↦
      let far : (t == s) ≡ false = from_apart t s (λ e. absurd (omega (arith, lt, e, here))) in
      below_set s (256 * w.number) (bits_of (marked_at (t % 256) w.bits)) lt ∙ sym (below_set s (256 * w.number) (bits_of w.bits) lt)
      ∙ sym (ap (λ (b : Bool). cond b true (is_in s (window_types w))) far)
  | inr le ↦ by (s - 256 * w.number) (omega (arith, le)) (t == s) refl
] where
  by : (k : ℕ) → s ≡ 256 * w.number + k → (b : Bool) → (t == s) ≡ b → is_in s (window_types (with_type t w)) ≡ cond b true (is_in s (window_types w))
  by k e true is =
      let place : k ≡ t % 256 = omega (arith, e, here, to_same t s is) in
      ap (λ (r : ℕ). is_in r (window_types (with_type t w))) e ∙ in_set (256 * w.number) k (bits_of (marked_at (t % 256) w.bits))
      ∙ ap (λ (n : ℕ). n == 1) (ap (λ (j : ℕ). get_or (bits_of (marked_at (t % 256) w.bits)) j 0) place ∙ same_bit (t % 256) w.bits)
  by k e false is =
      let far : k ≢ t % 256 = λ h. to_apart t s is (omega (arith, e, here, h)) in
      ap (λ (r : ℕ). is_in r (window_types (with_type t w))) e ∙ in_set (256 * w.number) k (bits_of (marked_at (t % 256) w.bits))
      ∙ ap (λ (n : ℕ). n == 1) (other_bit (t % 256) k w.bits far)
      ∙ sym (in_set (256 * w.number) k (bits_of w.bits)) ∙ sym (ap (λ (r : ℕ). is_in r (window_types w)) e)

abbrev insert : ℕ → List Window → List Window
insert t [] = with_type t (no_bits t) ∷ []
insert t (w ∷ others) = cond (w.number == t / 256) (with_type t w ∷ others) (with_type t (no_bits t) ∷ w ∷ others)

none_yet : (t s : ℕ) → is_in s (window_types (no_bits t)) ≡ false
unfolding bits_of set_from
none_yet t s = refl

first_or : (a b c : Bool) → cond (cond a true b) true c ≡ cond a true (cond b true c)
first_or true b c = refl
first_or false b c = refl

new_window : (t s : ℕ) (ws : List Window) → is_in s (windows_types (with_type t (no_bits t) ∷ ws)) ≡ cond (t == s) true (is_in s (windows_types ws))
unfolding windows_types
new_window t s ws =
    either_in s (window_types (with_type t (no_bits t))) (windows_types ws)
    ∙ ap (λ (b : Bool). cond b true (is_in s (windows_types ws))) (one_more t s (no_bits t) refl ∙ ap (λ (b : Bool). cond (t == s) true b) (none_yet t s))
    ∙ first_or (t == s) false (is_in s (windows_types ws))

inserted : (t s : ℕ) (ws : List Window) → is_in s (windows_types (insert t ws)) ≡ cond (t == s) true (is_in s (windows_types ws))
unfolding windows_types
inserted t s [] = new_window t s []
inserted t s (w ∷ others) = by (w.number == t / 256) refl where
  by : (b : Bool) → (w.number == t / 256) ≡ b → is_in s (windows_types (cond b (with_type t w ∷ others) (with_type t (no_bits t) ∷ w ∷ others))) ≡ cond (t == s) true (is_in s (windows_types (w ∷ others)))
  by true is =
      either_in s (window_types (with_type t w)) (windows_types others)
      ∙ ap (λ (b : Bool). cond b true (is_in s (windows_types others))) (one_more t s w (to_same w.number (t / 256) is))
      ∙ first_or (t == s) (is_in s (window_types w)) (is_in s (windows_types others))
      ∙ ap (λ (b : Bool). cond (t == s) true b) (sym (either_in s (window_types w) (windows_types others)))
  by false is = new_window t s (w ∷ others)

-- ---- the windows stay windows

abbrev LastSet : List ℕ → Type 0
LastSet [] = ⊥
LastSet (x ∷ []) = 0 < x
LastSet (x ∷ (y ∷ ys)) = LastSet (y ∷ ys)

abbrev LastSetIfAny : List ℕ → Type 0
LastSetIfAny [] = Unit {0}
LastSetIfAny (x ∷ xs) = LastSet (x ∷ xs)

last_is : (x : ℕ) (xs : List ℕ) → LastSet (x ∷ xs) → 0 < get_or (x ∷ xs) (length xs) 0
last_is x [] p = p
last_is x (y ∷ ys) p = last_is y ys p

is_last : (x : ℕ) (xs : List ℕ) → 0 < get_or (x ∷ xs) (length xs) 0 → LastSet (x ∷ xs)
is_last x [] p = p
is_last x (y ∷ ys) p = is_last y ys p

last_of : (xs : List ℕ) → LastSet xs → 0 < get_or xs (length xs - 1) 0
last_of [] p = absurd p
last_of (x ∷ xs) p =
    let e : length (x ∷ xs) - 1 ≡ length xs = omega arith in
    subst (λ (i : ℕ). 0 < get_or (x ∷ xs) i 0) (sym e) (last_is x xs p)

of_last : (xs : List ℕ) → 0 < get_or xs (length xs - 1) 0 → LastSetIfAny xs
of_last [] p = _
of_last (x ∷ xs) p =
    let e : length (x ∷ xs) - 1 ≡ length xs = omega arith in
    is_last x xs (subst (λ (i : ℕ). 0 < get_or (x ∷ xs) i 0) e p)

put_last : (i b : ℕ) (os : List ℕ) → ((x : ℕ) → 0 < bit_or x b) → LastSetIfAny os → LastSet (put i b os)
put_last zero b [] set last = set 0
put_last zero b (o ∷ []) set last = set o
put_last zero b (o ∷ (p ∷ os)) set last = last
put_last (suc zero) b [] set last = set 0
put_last (suc (suc i)) b [] set last = put_last (suc i) b [] set last
put_last (suc zero) b (o ∷ []) set last = set 0
put_last (suc (suc i)) b (o ∷ []) set last = put_last (suc i) b [] set _
put_last (suc zero) b (o ∷ (p ∷ os)) set last = put_last zero b (p ∷ os) set last
put_last (suc (suc i)) b (o ∷ (p ∷ os)) set last = put_last (suc i) b (p ∷ os) set last

put_some : (i b : ℕ) (os : List ℕ) → 1 ≤ length (put i b os)
put_some zero b [] = omega arith
put_some zero b (o ∷ os) = omega arith
put_some (suc i) b [] = omega arith
put_some (suc i) b (o ∷ os) = omega arith

put_few : (i b n : ℕ) (os : List ℕ) → i < n → length os ≤ n → length (put i b os) ≤ n
put_few zero b n [] lt le = omega arith
put_few zero b n (o ∷ os) lt le = omega arith
put_few (suc i) b n [] lt le = omega (arith, put_few i b (n - 1) [] (omega arith) (omega arith))
put_few (suc i) b n (o ∷ os) lt le = omega (arith, put_few i b (n - 1) os (omega arith) (omega arith))

set_positive : (place x : ℕ) → 0 < bit_or x (weight place)
set_positive place x = by (bit_or x (weight place)) refl where
  by : (n : ℕ) → bit_or x (weight place) ≡ n → 0 < bit_or x (weight place)
  by zero e = absurd (omega (arith, sym (ap (λ (m : ℕ). bit_at m (7 - place % 8)) e) ∙ bit_at_set_same w8 x (7 - place % 8) (omega arith), bit_at-zero (7 - place % 8)))
  by (suc n) e = omega arith

put_bits : (t : ℕ) (os : List ℕ) → length os ≤ 32 → LastSetIfAny os → AreBits (marked_at (t % 256) os)
put_bits t os few last = record {
  some = put_some (t % 256 / 8) (weight (t % 256)) os;
  few = put_few (t % 256 / 8) (weight (t % 256)) 32 os (omega arith) few;
  last = last_of (marked_at (t % 256) os) (put_last (t % 256 / 8) (weight (t % 256)) os (set_positive (t % 256)) last);
}

insert_rises : (t : ℕ) (ws : List Window) → WindowsFrom (t / 256) ws → WindowsFrom (t / 256) (insert t ws)
insert_rises t [] rise = (omega arith, put_bits t [] (omega arith) _, tt)
insert_rises t (w ∷ others) rise = by (w.number == t / 256) refl where
  bits_are : AreBits w.bits
  bits_are = rise.1

  by : (b : Bool) → (w.number == t / 256) ≡ b → WindowsFrom (t / 256) (cond b (with_type t w ∷ others) (with_type t (no_bits t) ∷ w ∷ others))
  by true is = (rise.0, put_bits t w.bits bits_are.few (of_last w.bits bits_are.last), rise.2)
  by false is =
      let apart = to_apart w.number (t / 256) is in
      (omega arith, put_bits t [] (omega arith) _, (omega (arith, rise.0, apart), rise.1, rise.2))

abbrev AreSmall : List Window → Type 0
AreSmall [] = Unit {0}
AreSmall (w ∷ ws) = (w.number < 256) × AreOctets w.bits × AreSmall ws

weight_octet : (place : ℕ) → weight place < 256
weight_octet place = omega arith

insert_small : (t : ℕ) (ws : List Window) → t < 65536 → AreSmall ws → AreSmall (insert t ws)
insert_small t [] lt small = (omega arith, put_octets (t % 256 / 8) (weight (t % 256)) [] (weight_octet (t % 256)) (λ i. omega arith), tt)
insert_small t (w ∷ others) lt small = by (w.number == t / 256) where
  by : (b : Bool) → AreSmall (cond b (with_type t w ∷ others) (with_type t (no_bits t) ∷ w ∷ others))
  by true = (small.0, put_octets (t % 256 / 8) (weight (t % 256)) w.bits (weight_octet (t % 256)) small.1, small.2)
  by false = (omega arith, put_octets (t % 256 / 8) (weight (t % 256)) [] (weight_octet (t % 256)) (λ i. omega arith), small)

both_octets : (xs ys : List ℕ) → AreOctets xs → AreOctets ys → AreOctets (xs ++ ys)
both_octets [] ys p q k = q k
both_octets (x ∷ xs) ys p q zero = p 0
both_octets (x ∷ xs) ys p q (suc k) = both_octets xs ys (λ j. p (suc j)) q k

small_octets : (least : ℕ) (ws : List Window) → WindowsFrom least ws → AreSmall ws → AreOctets (windows_octets ws)
small_octets least [] rise small k = omega arith
small_octets least (w ∷ others) rise small zero = small.0
small_octets least (w ∷ others) rise small (suc zero) = let b : AreBits w.bits = rise.1 in omega (arith, b.few)
small_octets least (w ∷ others) rise small (suc (suc k)) = both_octets w.bits (windows_octets others) small.1 (small_octets (suc w.number) others rise.2 small.2) k

-- ---- rising lists by their members

below_rising : (s low : ℕ) (xs : List ℕ) → RisesFrom low xs → s < low → is_in s xs ≡ false
below_rising s low [] rise lt = refl
below_rising s low (x ∷ xs) rise lt =
    let far : (x == s) ≡ false = from_apart x s (λ e. absurd (omega (arith, e, lt, rise.0))) in
    rw far (below_rising s (suc x) xs rise.1 (omega (arith, lt, rise.0)))

itself : (x : ℕ) (xs : List ℕ) → is_in x (x ∷ xs) ≡ true
itself x xs =
    let same : (x == x) ≡ true = grind (arith, nat_tests) in
    rw same refl

unlike : (b : Bool) → b ≡ true → b ≡ false → ⊥
unlike b p q = absurd cc

alike : (low : ℕ) (xs ys : List ℕ) → RisesFrom low xs → RisesFrom low ys → ((s : ℕ) → is_in s xs ≡ is_in s ys) → xs ≡ ys
alike low [] [] p q same = refl
alike low [] (y ∷ ys) p q same = absurd (unlike (is_in y (y ∷ ys)) (itself y ys) (sym (same y)))
alike low (x ∷ xs) [] p q same = absurd (unlike (is_in x (x ∷ xs)) (itself x xs) (same x))
alike low (x ∷ xs) (y ∷ ys) p q same = elim (cases_lt x y) [
  | inl lt ↦ absurd (unlike (is_in x (x ∷ xs)) (itself x xs) (same x ∙ below_rising x y (y ∷ ys) (omega arith, q.1) lt))
  | inr ge ↦ elim (cases_lt y x) [
    | inl lt ↦ absurd (unlike (is_in y (y ∷ ys)) (itself y ys) (sym (same y) ∙ below_rising y x (x ∷ xs) (omega arith, p.1) lt))
    | inr le ↦ by (omega (arith, ge, le)) (λ r m. alike (suc x) xs ys p.1 r m)
  ]
] where
  by : x ≡ y → (RisesFrom (suc x) ys → ((s : ℕ) → is_in s xs ≡ is_in s ys) → xs ≡ ys) → x ∷ xs ≡ y ∷ ys
  by e again =
      let others : RisesFrom (suc x) ys = lower_from (suc x) (suc y) ys (omega (arith, e)) q.1 in
      ap (λ (n : ℕ). n ∷ xs) e ∙ ap (λ (l : List ℕ). y ∷ l) (again others (λ s. members s (x == s) refl)) where
        members : (s : ℕ) (b : Bool) → (x == s) ≡ b → is_in s xs ≡ is_in s ys
        members s true is =
            let here : x ≡ s = to_same x s is in
            below_rising s (suc x) xs p.1 (omega (arith, here)) ∙ sym (below_rising s (suc y) ys q.1 (omega (arith, here, e)))
        members s false is =
            let there : (y == s) ≡ false = sym (ap (λ (n : ℕ). n == s) e) ∙ is in
            sym (ap (λ (b : Bool). cond b true (is_in s xs)) is) ∙ same s ∙ ap (λ (b : Bool). cond b true (is_in s ys)) there

rising : (low x : ℕ) (xs : List ℕ) → low ≤ x → IsStrictlyIncreasing (x ∷ xs) → RisesFrom low (x ∷ xs)
rising low x [] le up = (le, tt)
rising low x (y ∷ ys) le up = (le, rising (suc x) y ys (up 0 (omega arith)) others) where
  others : IsStrictlyIncreasing (y ∷ ys)
  others k lt =
      let e : suc k + 1 ≡ suc (k + 1) = omega arith in
      subst (λ (n : ℕ). get_or (y ∷ ys) k 0 < get_or (x ∷ (y ∷ ys)) n 0) e (up (suc k) (omega (arith, lt)))

-- ---- the bitmap

record Made (low : ℕ) (types : List ℕ) : Type 0 where
  windows : List Window
  rise : WindowsFrom (low / 256) windows
  small : AreSmall windows
  same : (s : ℕ) → is_in s (windows_types windows) ≡ is_in s types

none_in : (s : ℕ) → is_in s (windows_types []) ≡ false
unfolding windows_types
none_in s = refl

make : (low : ℕ) (types : List ℕ) → RisesFrom low types → ((k : ℕ) → get_or types k 0 < 65536) → Made low types
make low [] rise few = record { windows = []; rise = tt; small = tt; same = none_in }
make low (t ∷ types) rise few =
    let m = make (suc t) types rise.1 (λ k. few (suc k)) in
    let later : WindowsFrom (t / 256) m.windows = from_less (t / 256) (suc t / 256) m.windows (omega arith) m.rise in
    record {
      windows = insert t m.windows;
      rise = from_less (low / 256) (t / 256) (insert t m.windows) (omega (arith, rise.0)) (insert_rises t m.windows later);
      small = insert_small t m.windows (few 0) m.small;
      same = λ s. inserted t s m.windows ∙ ap (λ (b : Bool). cond (t == s) true b) (m.same s);
    }

made : (types : List ℕ) → RisesFrom 0 types → ((k : ℕ) → get_or types k 0 < 65536) → (bytes : List ℕ) × (AreOctets bytes × (is_bitmap bytes ≡ true) × (types_in bytes ≡ types))
unfolding types_in
made types rise few =
    let m = make 0 types rise few in
    let from : WindowsFrom 0 m.windows = from_less 0 (0 / 256) m.windows (omega arith) m.rise in
    let is : AreWindows (windows_octets m.windows) = record { windows = m.windows; rise = from; is = refl } in
    let these : windows_types (windows_in (windows_octets m.windows)) ≡ windows_types m.windows = ap windows_types (windows_these (windows_octets m.windows) is) in
    (windows_octets m.windows, (small_octets 0 m.windows from m.small, is_this_bitmap (windows_octets m.windows) is, these ∙ alike 0 (windows_types m.windows) types (windows_rise_from 0 m.windows from) rise m.same))

pub types_made : (types : List ℕ) → IsStrictlyIncreasing types → ((k : ℕ) → get_or types k 0 < 65536) → (bytes : List ℕ) × (AreOctets bytes × (is_bitmap bytes ≡ true) × (types_in bytes ≡ types))
types_made [] up few = made [] tt few
types_made (t ∷ types) up few = made (t ∷ types) (rising 0 t types (omega arith) up) few
