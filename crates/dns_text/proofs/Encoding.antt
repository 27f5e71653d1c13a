-- The digits of octets, and what the crate `hex` encodes.
use Rattle.std.proofs.Common.{◌≡◌, ℕ, ◌*◌, List, [], ◌∷◌, length, refl, ap, ◌∙◌, arith, length-append}
use Rattle.std.specs.Prelude.{flat_map}
use Rattle.std.proofs.lemmas.List.Concat.{flat_map-cons}
use Rattle.hex.specs.Hex.{encode_lower, encode_with}
use Rattle.dns_text.specs.Hexadecimal.{shown}

-- what is encoded is what is shown
pub encoded : (octets : List ℕ) → encode_lower octets ≡ flat_map shown octets
unfolding encode_with
encoded [] = refl
encoded (b ∷ rest) = rw (flat_map-cons shown b rest, encoded rest) refl

-- two digits for each octet
pub shown_long : (octets : List ℕ) → length (flat_map shown octets) ≡ 2 * length octets
shown_long [] = refl
shown_long (b ∷ rest) = ap length (flat_map-cons shown b rest) ∙ omega (arith, shown_long rest, length-append (shown b) (flat_map shown rest))
