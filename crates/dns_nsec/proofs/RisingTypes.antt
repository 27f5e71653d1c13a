-- The types of windows strictly rise.
use Rattle.std.proofs.Common.{◌≡◌, ℕ, zero, suc, ◌+◌, ◌*◌, ◌<◌, ◌≤◌, Bool, true, false, cond, List, [], ◌∷◌, ◌++◌, length, get_or, sym, subst, arith}
use Rattle.std.specs.Prelude.{◌==◌}
use Rattle.std.specs.List.Sorted.{IsStrictlyIncreasing}
use Rattle.dns_record.specs.InPlace.{WindowsFrom, AreBits}
use Rattle.dns_record.specs.TypeBitMaps.{Window, is_bitmap}
use Rattle.dns_nsec.specs.Bitmaps.{bits_of, set_from, window_types, windows_types, windows_in, types_in}
use Rattle.dns_nsec.proofs.WindowBits.{bits_count}
use Rattle.dns_nsec.proofs.Parted.{windows_rise}

-- strictly rising numbers, none below the first one named
abbrev pub RisesFrom : ℕ → List ℕ → Type 0
RisesFrom low [] = Unit {0}
RisesFrom low (x ∷ xs) = (low ≤ x) × RisesFrom (suc x) xs

-- the same, and none from the second one named on
abbrev pub Rises : ℕ → ℕ → List ℕ → Type 0
Rises low high [] = low ≤ high
Rises low high (x ∷ xs) = (low ≤ x) × (x < high) × Rises (suc x) high xs

pub lower_from : (a b : ℕ) (xs : List ℕ) → a ≤ b → RisesFrom b xs → RisesFrom a xs
lower_from a b [] le rise = _
lower_from a b (x ∷ xs) le rise = (omega (arith, le, rise.0), rise.1)

lower : (a b high : ℕ) (xs : List ℕ) → a ≤ b → Rises b high xs → Rises a high xs
lower a b high [] le rise = omega (arith, le, rise)
lower a b high (x ∷ xs) le rise = (omega (arith, le, rise.0), rise.1, rise.2)

higher : (low a b : ℕ) (xs : List ℕ) → a ≤ b → Rises low a xs → Rises low b xs
higher low a b [] le rise = omega (arith, le, rise)
higher low a b (x ∷ xs) le rise = (rise.0, omega (arith, le, rise.1), higher (suc x) a b xs le rise.2)

joined : (low middle : ℕ) (xs ys : List ℕ) → Rises low middle xs → RisesFrom middle ys → RisesFrom low (xs ++ ys)
joined low middle [] ys rise more = lower_from low middle ys rise more
joined low middle (x ∷ xs) ys rise more = (rise.0, joined (suc x) middle xs ys rise.2 more)

set_rises : (n : ℕ) (bits : List ℕ) → Rises n (n + length bits) (set_from n bits)
unfolding set_from
set_rises n [] = omega arith
set_rises n (bit ∷ bits) =
    let e : suc n + length bits ≡ n + length (bit ∷ bits) = omega arith in
    by (bit == 1) (subst (λ (high : ℕ). Rises (suc n) high (set_from (suc n) bits)) e (set_rises (suc n) bits)) where
      by : (b : Bool) → Rises (suc n) (n + length (bit ∷ bits)) (set_from (suc n) bits) → Rises n (n + length (bit ∷ bits)) (cond b (n ∷ set_from (suc n) bits) (set_from (suc n) bits))
      by true again = (omega arith, omega arith, again)
      by false again = lower n (suc n) (n + length (bit ∷ bits)) (set_from (suc n) bits) (omega arith) again

-- the types of a window are its own
pub window_rises : (w : Window) → length w.bits ≤ 32 → Rises (256 * w.number) (256 * suc w.number) (window_types w)
window_rises w few = higher (256 * w.number) (256 * w.number + length (bits_of w.bits)) (256 * suc w.number) (window_types w) (omega (arith, few, bits_count w.bits)) (set_rises (256 * w.number) (bits_of w.bits))

pub windows_rise_from : (least : ℕ) (windows : List Window) → WindowsFrom least windows → RisesFrom (256 * least) (windows_types windows)
unfolding windows_types
windows_rise_from least [] rise = _
windows_rise_from least (w ∷ others) rise =
    let bits : AreBits w.bits = rise.1 in
    lower_from (256 * least) (256 * w.number) (window_types w ++ windows_types others) (omega (arith, rise.0))
    (joined (256 * w.number) (256 * suc w.number) (window_types w) (windows_types others) (window_rises w bits.few) (windows_rise_from (suc w.number) others rise.2))

increasing : (low : ℕ) (xs : List ℕ) → RisesFrom low xs → IsStrictlyIncreasing xs
increasing low [] rise k lt = absurd (omega (arith, lt))
increasing low (x ∷ []) rise k lt = absurd (omega (arith, lt))
increasing low (x ∷ (y ∷ ys)) rise zero lt = omega (arith, rise.1.0)
increasing low (x ∷ (y ∷ ys)) rise (suc k) lt =
    let e : suc k + 1 ≡ suc (k + 1) = omega arith in
    subst (λ (n : ℕ). get_or (y ∷ ys) k 0 < get_or (x ∷ (y ∷ ys)) n 0) (sym e) (increasing (suc x) (y ∷ ys) rise.1 k (omega (arith, lt)))

pub types_rise : (bytes : List ℕ) → is_bitmap bytes ≡ true → IsStrictlyIncreasing (types_in bytes)
unfolding types_in
types_rise bytes e = increasing (256 * 0) (windows_types (windows_in bytes)) (windows_rise_from 0 (windows_in bytes) (windows_rise bytes e))
