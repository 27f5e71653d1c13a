-- A type is among those of a bitmap exactly if its bit is 1.
use Rattle.std.proofs.Common.{◌≡◌, ℕ, zero, suc, ◌-◌, ◌/◌, ◌%◌, ◌^◌, ◌<◌, Bool, true, false, cond, List, [], ◌∷◌, length, get_or, refl, sym, ap, ◌∙◌, arith}
use Rattle.std.specs.Prelude.{◌==◌, ◌↔◌, IsTrue, Contains}
use Rattle.std.proofs.lemmas.Bool.Decides.{nat_tests}
use Rattle.dns_record.specs.InPlace.{WindowsFrom, AreBits}
use Rattle.dns_record.specs.TypeBitMaps.{Window, is_bitmap}
use Rattle.dns_nsec.specs.Bitmaps.{bits_of, window_types, windows_types, windows_in, types_in, Marks, IsMarked}
use Rattle.dns_nsec.proofs.WindowBits.{bit_of}
use Rattle.dns_nsec.proofs.NamedTypes.{is_in, in_contains, contains_in, contains_so, either_in, window_hit, window_miss}
use Rattle.dns_nsec.proofs.Parted.{windows_rise}

bit_is : (type : ℕ) (w : Window) → get_or (bits_of w.bits) (type % 256) 0 ≡ get_or w.bits (type % 256 / 8) 0 / 2 ^ (7 - type % 8) % 2
bit_is type w =
    let e : 7 - type % 256 % 8 ≡ 7 - type % 8 = omega arith in
    bit_of w.bits (type % 256) ∙ ap (λ (j : ℕ). get_or w.bits (type % 256 / 8) 0 / 2 ^ j % 2) e

to_one : (n : ℕ) → (n == 1) ≡ true → n ≡ 1
to_one n e = grind (arith, nat_tests)

from_one : (n : ℕ) → n ≡ 1 → (n == 1) ≡ true
from_one n e = grind (arith, nat_tests)

to_same : (m n : ℕ) → (m == n) ≡ true → m ≡ n
to_same m n e = grind (arith, nat_tests)

apart : (m n : ℕ) → (m == n) ≡ false → m ≡ n → ⊥
apart m n e same = grind (arith, nat_tests)

abbrev Marked : List Window → ℕ → Type 0
Marked windows type = (w : Window) × (Contains windows w × Marks w type)

to_marked : (type least : ℕ) (windows : List Window) → WindowsFrom least windows → is_in type (windows_types windows) ≡ true → Marked windows type
unfolding windows_types
to_marked type least [] rise e = absurd cc
to_marked type least (w ∷ others) rise e = by (w.number == type / 256) refl (to_marked type (suc w.number) others rise.2) where
  by : (b : Bool) → (w.number == type / 256) ≡ b → (is_in type (windows_types others) ≡ true → Marked others type) → Marked (w ∷ others) type
  by true is again =
      let here : w.number ≡ type / 256 = to_same w.number (type / 256) is in
      let one : get_or (bits_of w.bits) (type % 256) 0 ≡ 1 = to_one (get_or (bits_of w.bits) (type % 256) 0) (sym (window_hit type least w others rise here) ∙ e) in
      (w, ((zero, omega arith, refl), record { number = here; bit = sym (bit_is type w) ∙ one }))
  by false is again =
      let bits : AreBits w.bits = rise.1 in
      let p = again (sym (window_miss type w others bits.few (apart w.number (type / 256) is)) ∙ e) in
      let at = p.1.0 in
      (p.0, ((suc at.0, omega (arith, at.1), at.2), p.1.1))

always : (b : Bool) → cond b true true ≡ true
always true = refl
always false = refl

from_marked : (type least : ℕ) (windows : List Window) → WindowsFrom least windows → (w : Window) (k : ℕ) → k < length windows → get_or windows k w ≡ w → Marks w type → is_in type (windows_types windows) ≡ true
unfolding windows_types
from_marked type least [] rise w k lt e m = absurd (omega arith)
from_marked type least (x ∷ others) rise w zero lt e m =
    window_hit type least x others rise (ap (λ (v : Window). v.number) e ∙ m.number)
    ∙ from_one (get_or (bits_of x.bits) (type % 256) 0) (ap (λ (v : Window). get_or (bits_of v.bits) (type % 256) 0) e ∙ bit_is type w ∙ m.bit)
from_marked type least (x ∷ others) rise w (suc k) lt e m =
    let again : is_in type (windows_types others) ≡ true = from_marked type (suc x.number) others rise.2 w k (omega arith) e m in
    either_in type (window_types x) (windows_types others) ∙ rw again (always (is_in type (window_types x)))

pub types_marked : (bytes : List ℕ) (type : ℕ) → is_bitmap bytes ≡ true → Contains (types_in bytes) type ↔ IsMarked bytes type
unfolding types_in
types_marked bytes type is =
    let rise = windows_rise bytes is in (
      λ p. to_marked type 0 (windows_in bytes) rise (contains_in type (windows_types (windows_in bytes)) p.0 p.1 p.2),
      λ q. in_contains type (windows_types (windows_in bytes)) (from_marked type 0 (windows_in bytes) rise q.0 q.1.0.0 q.1.0.1 q.1.0.2 q.1.1),
    )

-- a test that answers so is whether the bitmap marks the type
pub marked_so : (bytes : List ℕ) (type : ℕ) (r : Bool) → is_bitmap bytes ≡ true → is_in type (types_in bytes) ≡ r → IsTrue r ↔ IsMarked bytes type
marked_so bytes type r is e =
    let among = contains_so type (types_in bytes) r e in
    let marked = types_marked bytes type is in
    (λ h. marked.0 (among.0 h), λ m. among.1 (marked.1 m))
