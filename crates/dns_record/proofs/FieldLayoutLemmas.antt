-- Data have a part for each field: what they write is what the parts write.
use Rattle.std.specs.Prelude.{List, [], ◌∷◌, length, Option, Some, None}
use Rattle.std.proofs.Common.{refl}
use Rattle.std.specs.Int.{to_be_bytes}
use Rattle.dns_wire.specs.Compression.{CompressedWrite}
use Rattle.dns_wire.specs.Names.{wire}
use Rattle.dns_wire.specs.Layout.{LayoutPart, octets_writes, list_writes, LayoutMatches}
use Rattle.dns_wire.specs.Layout.LayoutPart.{NamePart, OctetsPart}
use Rattle.dns_wire.specs.LayoutLemmas.{part_matches, then_matches}
use Rattle.dns_record.specs.Fields.{FieldOf}
use Rattle.dns_record.specs.Fields.FieldOf.{CompressibleName, UncompressedName, CharacterString, CountedOctets, CharacterStrings, OtherOctets, Byte, Number}
use Rattle.dns_record.specs.InMessage.{of_field, fields_write, one_name, fields_layout}

-- a value that is one name
pub name_matches : (layout : Option (List LayoutPart)) (writes : CompressedWrite) → LayoutMatches layout writes → LayoutMatches (one_name layout) writes
name_matches None writes layout_matches = tt
name_matches (Some []) writes layout_matches = tt
name_matches (Some (NamePart labels ∷ [])) writes layout_matches = layout_matches
name_matches (Some (NamePart labels ∷ part ∷ layout)) writes layout_matches = tt
name_matches (Some (OctetsPart octets ∷ layout)) writes layout_matches = tt

nothing_matches : LayoutMatches (Some []) (octets_writes [])
unfolding list_writes
nothing_matches contents places = refl

module _ {N : Type 0} (writes : N → CompressedWrite) (layout : N → Option (List LayoutPart)) (layout_matches : (n : N) → LayoutMatches (layout n) (writes n)) where
  field_matches : (field : FieldOf N) → LayoutMatches (of_field (λ n. one_name (layout n)) (λ octets. Some (OctetsPart octets ∷ [])) field) (of_field writes octets_writes field)
  field_matches (CompressibleName n) = name_matches (layout n) (writes n) (layout_matches n)
  field_matches (UncompressedName labels) = part_matches (OctetsPart (wire labels))
  field_matches (CharacterString octets) = part_matches (OctetsPart (length octets ∷ octets))
  field_matches (CountedOctets octets) = part_matches (OctetsPart (length octets ∷ octets))
  field_matches (CharacterStrings octets) = part_matches (OctetsPart octets)
  field_matches (OtherOctets octets) = part_matches (OctetsPart octets)
  field_matches (Byte b) = part_matches (OctetsPart (b ∷ []))
  field_matches (Number w n) = part_matches (OctetsPart (to_be_bytes w n))

  pub fields_match : (fields : List (FieldOf N)) → LayoutMatches (fields_layout layout fields) (fields_write writes fields)
  fields_match [] = nothing_matches
  fields_match (field ∷ fields) =
      then_matches (of_field writes octets_writes field) (fields_write writes fields) (of_field (λ n. one_name (layout n)) (λ octets. Some (OctetsPart octets ∷ [])) field) (fields_layout layout fields) (field_matches field) (fields_match fields)
