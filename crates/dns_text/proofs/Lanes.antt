-- Vectors that are computed lane by lane.
use Rattle.std.proofs.Common.{◌≡◌, ℕ, ◌+◌, ◌-◌, ◌*◌, ◌%◌, ◌^◌, ◌<◌, ◌&&◌, cond, eqb, ltb, Bool, true, false, List, [], ◌∷◌, length, map, refl, sym, ap, ◌∙◌, inl, inr, arith}
use Rattle.std.specs.List.{list_all}
use Rattle.std.proofs.lemmas.Bool.{cases_eq, eq-eqb, ne_eqb}
use Rattle.std.proofs.Math.Nat.{pow-succ'}
use lib.Lanes.{mask_l}
use lib.Pow.{pow_pos}

-- ---- what the operators compute at a lane

abbrev pub below : ℕ → ℕ → ℕ
below a b = cond (ltb a b) 255 0

abbrev pub less : ℕ → ℕ → ℕ
less a b = (a + (2 ^ 8 - b)) % 2 ^ 8

abbrev pub more : ℕ → ℕ → ℕ
more a b = (a + b) % 2 ^ 8

-- ---- a vector of such lanes

-- the mask is full just where all lanes pass
one_more : (b : Bool) (m k : ℕ) → 0 < k → eqb (cond b 1 0 + 2 * m) (2 * k - 1) ≡ (b && eqb m (k - 1))
one_more false m k some = ne_eqb (0 + 2 * m) (2 * k - 1) (λ e. omega arith)
one_more true m k some = elim (cases_eq m (k - 1)) [
  | inl same ↦ eq-eqb (1 + 2 * m) (2 * k - 1) (omega arith) ∙ sym (eq-eqb m (k - 1) same)
  | inr other ↦ ne_eqb (1 + 2 * m) (2 * k - 1) (λ e. other (omega arith)) ∙ sym (ne_eqb m (k - 1) other)
]

pub full_mask : (p : ℕ → Bool) (lanes : List ℕ) → eqb (mask_l (map p lanes)) (2 ^ length lanes - 1) ≡ list_all p lanes
full_mask p [] = refl
full_mask p (x ∷ xs) =
    ap (λ k. eqb (cond (p x) 1 0 + 2 * mask_l (map p xs)) (k - 1)) (pow-succ' 2 (length xs))
    ∙ one_more (p x) (mask_l (map p xs)) (2 ^ length xs) (pow_pos (length xs))
    ∙ ap (λ t. p x && t) (full_mask p xs)
