-- A bit of a number of some width, cleared.
use Rattle.std.proofs.Common.{◌≡◌, ◌≢◌, ℕ, ◌*◌, ◌%◌, ◌<◌, ◌^◌, inl, inr, arith}
use Rattle.std.specs.Prelude.{bit_and}
use mir.Val.{bits}
use Rattle.std.specs.Int.{Width, bit_at, bit_not}
use Rattle.std.proofs.lemmas.Nat.Bits.{bit_at_clear_other, bit_at_above, bit_at_and}
use Rattle.std.proofs.lemmas.Bool.{cases_lt}

-- the other bits, those above the width too, stay
pub others_cleared : (w : Width) (n k : ℕ) → k < bits w → n < 2 ^ bits w → (i : ℕ) → i ≢ k → bit_at (bit_and n (bit_not w (1 * 2 ^ k % 2 ^ bits w))) i ≡ bit_at n i
others_cleared w n k within short i apart = elim (cases_lt i (bits w)) [
  | inl low ↦ bit_at_clear_other w n k within i low apart
  | inr high ↦ omega (arith, bit_at_and n (bit_not w (1 * 2 ^ k % 2 ^ bits w)) i, bit_at_above n (bits w) i short high)
]
