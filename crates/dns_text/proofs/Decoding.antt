-- Hexadecimal text of an odd length, and what the crate `hex` decodes.
use Rattle.std.proofs.Common.{◌≡◌, ℕ, ◌+◌, ◌*◌, ◌%◌, List, [], ◌∷◌, length, Option, Some, None, refl, ap, ◌∙◌, arith}
use Rattle.std.specs.Prelude.{MatchResult, Result, Ok, Err}
use Rattle.hex.specs.Hex.{digit_or_error, decode_pairs, ◌>>=◌}
use Rattle.hex.specs.declared.error.FromHexError.{FromHexError}
use Rattle.dns_text.specs.Hexadecimal.{digit_value, pair_before, spelled}

pair_none : (high low : Option ℕ) → pair_before high low None ≡ None
pair_none (Some h) (Some l) = refl
pair_none (Some h) None = refl
pair_none None low = refl

pub odd_spells_none : (s : List ℕ) → length s % 2 ≡ 1 → spelled s ≡ None
unfolding spelled
odd_spells_none [] odd = absurd (omega arith)
odd_spells_none (c ∷ []) odd = refl
odd_spells_none (c ∷ d ∷ rest) odd =
    ap (pair_before (digit_value c) (digit_value d)) (odd_spells_none rest (omega arith)) ∙ pair_none (digit_value c) (digit_value d)

-- what is decoded is what is spelled
pub decoded : (i : ℕ) (s : List ℕ) → MatchResult (decode_pairs i s) (λ bytes. spelled s ≡ Some bytes) (λ e. spelled s ≡ None)
unfolding spelled decode_pairs
decoded i [] = refl
decoded i (c ∷ []) = refl
decoded i (c ∷ d ∷ rest) = by (digit_value c) (digit_value d) (spelled rest) (decode_pairs (i + 2) rest) (decoded (i + 2) rest) where
  by : (high low : Option ℕ) (later : Option (List ℕ)) (bytes : Result (List ℕ) FromHexError) → MatchResult bytes (λ l. later ≡ Some l) (λ e. later ≡ None)
      → MatchResult ((digit_or_error c i high >>= (λ h. digit_or_error d (i + 1) low >>= (λ l. Ok (h * 16 + l)))) >>= (λ b. bytes >>= (λ l. Ok (b ∷ l))))
      (λ l. pair_before high low later ≡ Some l) (λ e. pair_before high low later ≡ None)
  by (Some h) (Some l) later (Ok bytes) is = ap (pair_before (Some h) (Some l)) is
  by (Some h) (Some l) later (Err e) is = ap (pair_before (Some h) (Some l)) is
  by (Some h) None later bytes is = refl
  by None low later bytes is = refl
