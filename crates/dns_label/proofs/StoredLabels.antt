-- The octets after a label that owns them.
use Rattle.std.proofs.Common.{◌≡◌, ℕ, suc, ◌+◌, ◌<◌, List, [], ◌∷◌, length, get_or, take, refl, sym, ap, subst, arith}
use Rattle.std.proofs.lemmas.List.{length-take}
use Rattle.dns_wire.specs.Storage.{stored}
use Rattle.dns_label.specs.Labels.{FitsLabel, label_wire, contents_of}

-- the octets in use are a label's
pub record InUse (octets : List ℕ) (wire : List ℕ) : Type 0 where
  pub short : FitsLabel (contents_of wire)
  pub wire_is : wire ≡ label_wire (contents_of wire)
  pub contents_are : contents_of wire ≡ stored octets

pub in_use : (octets : List ℕ) → get_or octets 0 0 < 64 → length octets ≡ 64 → InUse octets (take (1 + get_or octets 0 0) octets)
in_use [] small long = absurd (omega arith)
in_use (size ∷ rest) small long =
    let count : length (take size rest) ≡ size = omega (arith, length-take size rest) in
    let after : suc size ≡ 1 + size = omega arith in
    subst (λ (n : ℕ). InUse (size ∷ rest) (take n (size ∷ rest))) after
    (record { short = omega arith; wire_is = ap (λ (n : ℕ). n ∷ take size rest) (sym count); contents_are = refl })
