-- Data that are written whole in a message have a layout with a part for each field.
use Rattle.std.specs.Prelude.{List, [], ◌∷◌, ◌++◌, Some}
use Rattle.std.proofs.Common.{refl, ap}
use Rattle.dns_wire.specs.Octets.{Octets}
use Rattle.dns_wire.specs.Layout.{LayoutPart, octets_writes, list_writes, LayoutMatches}
use Rattle.dns_wire.specs.Layout.LayoutPart.{OctetsPart}
use Rattle.dns_record.specs.Fields.{Field, field_octets, fields_octets}

-- the parts of fields, whole
abbrev pub octets_layout : List Field → List LayoutPart
octets_layout [] = []
octets_layout (field ∷ fields) = OctetsPart (field_octets field) ∷ octets_layout fields

-- what they write is the fields' octets
pub octets_match : (fields : List Field) → LayoutMatches (Some (octets_layout fields)) (octets_writes (fields_octets fields))
unfolding list_writes
octets_match [] contents places = refl
octets_match (field ∷ fields) contents places =
    ap (λ (r : Octets × Octets). (field_octets field ++ r.0, r.1)) (octets_match fields (contents ++ field_octets field) places)
