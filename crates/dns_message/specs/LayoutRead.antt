-- Pieces in a message, as they are read where they are: names, ignoring ASCII case, and octets as they are.
use Rattle.std.specs.Prelude.{◌≡◌, ℕ, ◌+◌, ◌≤◌, List, [], ◌∷◌, length, take, drop, ⊤}
use Rattle.dns_wire.specs.Octets.{Octets}
use Rattle.dns_wire.specs.Compression.{ReadsAlike}
use Rattle.dns_wire.specs.Names.{IsName}
use Rattle.dns_wire.specs.Layout.{LayoutPart}
use Rattle.dns_wire.specs.Layout.LayoutPart.{NamePart, OctetsPart}

-- a compressed part is a name
abbrev pub IsLayoutPart : LayoutPart → Type 0
IsLayoutPart (NamePart labels) = IsName labels
IsLayoutPart (OctetsPart octets) = ⊤

-- they come one after another, from a place up to an end
abbrev pub LayoutAt : Octets → ℕ → List LayoutPart → ℕ → Type 0
LayoutAt contents at [] end = at ≡ end
LayoutAt contents at (NamePart labels ∷ layout) end =
    (middle : ℕ) × ReadsAlike contents labels at middle × LayoutAt contents middle layout end
LayoutAt contents at (OctetsPart octets ∷ layout) end =
    (at + length octets ≤ length contents) × (take (length octets) (drop at contents) ≡ octets) × LayoutAt contents (at + length octets) layout end
