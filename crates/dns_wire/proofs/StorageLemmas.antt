-- Octets that are stored after an octet with their number.
use Rattle.std.proofs.Common.{◌≡◌, ℕ, zero, suc, ◌+◌, ◌<◌, ◌≤◌, List, [], ◌∷◌, ◌++◌, length, get_or, take, drop, refl, sym, ap, ◌∙◌, arith}
use Rattle.std.proofs.lemmas.List.{length-take, take-take}
use Rattle.std.specs.List.{refill}
use Rattle.dns_wire.specs.Storage.{stored, overwritten}

-- the prefix of a list that is written over is its prefix, written over
prefix_over : (n : ℕ) (xs ws : List ℕ) → take n (ws ++ drop (length ws) xs) ≡ take n (ws ++ drop (length ws) (take n xs))
prefix_over n xs [] = sym (take-take n n xs (omega arith))
prefix_over zero xs (w ∷ ws) = refl
prefix_over (suc n) [] (w ∷ ws) = refl
prefix_over (suc n) (x ∷ xs) (w ∷ ws) = ap (λ (l : List ℕ). w ∷ l) (prefix_over n xs ws)

-- what is written over the stored octets is then stored
pub stored_over : {size : ℕ} (octets ws : List ℕ) → get_or octets 0 0 < size → length octets ≡ size → stored (overwritten octets 1 ws) ≡ refill (length (stored octets)) (stored octets) ws
stored_over [] ws small long = absurd (omega arith)
stored_over (count ∷ rest) ws small long =
    let counted : length (take count rest) ≡ count = omega (arith, length-take count rest) in
    let after : 1 + length ws ≡ suc (length ws) = omega arith in
    let room : count ≤ length rest = omega arith in
    rw (after, counted) (take-take count (length rest) (ws ++ drop (length ws) rest) room ∙ prefix_over count rest ws)
