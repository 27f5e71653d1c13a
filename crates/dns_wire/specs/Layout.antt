-- What is written in a message, one thing after another: names, which are compressed, and octets as they are.
use Rattle.std.specs.Prelude.{◌≡◌, List, [], ◌∷◌, ◌++◌, Option, Some, None, ⊤}
use Rattle.dns_wire.specs.Octets.{Octets, Labels, Places}
use Rattle.dns_wire.specs.Compression.{CompressedWrite, compressed_name_writes}

pub data LayoutPart : Type 0 where
  NamePart : Labels → LayoutPart
  OctetsPart : Octets → LayoutPart

-- octets as they are, of which no place is noted
abbrev pub octets_writes : Octets → CompressedWrite
octets_writes octets contents places = (octets, places)

-- what a part writes
abbrev pub part_writes : LayoutPart → CompressedWrite
part_writes (NamePart labels) = compressed_name_writes labels
part_writes (OctetsPart octets) = octets_writes octets

-- one after the other: the second one sees the octets of the first, and the places after it
abbrev pub then_writes : CompressedWrite → CompressedWrite → CompressedWrite
then_writes first second contents places =
    let (octets, known) = first contents places in
    let (others, after) = second (contents ++ octets) known in (octets ++ others, after)

-- what the values of a list write, one after another: each sees the octets and the places of those before it
unfoldable pub list_writes : {A : Type 0} → (A → CompressedWrite) → List A → CompressedWrite
list_writes writes [] = octets_writes []
list_writes writes (value ∷ values) = then_writes (writes value) (list_writes writes values)

-- what parts write, one after another
abbrev pub laid : List LayoutPart → CompressedWrite
laid layout = list_writes part_writes layout

-- if the layout is known, what is written is what its parts write
abbrev pub LayoutMatches : Option (List LayoutPart) → CompressedWrite → Type 0
LayoutMatches None writes = ⊤
LayoutMatches (Some layout) writes = (contents : Octets) (places : Places) → writes contents places ≡ laid layout contents places

-- the layout of one value and then of another, if both are known
abbrev pub both_layouts : Option (List LayoutPart) → Option (List LayoutPart) → Option (List LayoutPart)
both_layouts None others = None
both_layouts (Some layout) None = None
both_layouts (Some layout) (Some others) = Some (layout ++ others)
