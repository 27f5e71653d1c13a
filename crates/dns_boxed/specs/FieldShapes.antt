-- The fields that an RDATA format reads are of its kinds, so that the numbers of two such lists have the same widths.
use Rattle.std.proofs.Common.{◌≡◌, ℕ, true, List, [], ◌∷◌, Option, Some, None, refl, sym, subst, ◌∙◌}
use Rattle.std.proofs.lemmas.Option.{some_pair_parts}
use Rattle.dns_wire.specs.Names.{plain_name}
use Rattle.dns_wire.specs.Reading.{octet, octets, number, all_of}
use Rattle.dns_record.specs.Data.{data_as}
use Rattle.dns_record.specs.Fields.{Field}
use Rattle.dns_record.specs.Fields.FieldOf.{CompressibleName, UncompressedName, CharacterString, CountedOctets, CharacterStrings, OtherOctets, Byte, Number}
use Rattle.dns_record.specs.Kinds.{Kind, field_of, fields_of}
use Rattle.dns_record.specs.Options.{options}
use Rattle.dns_record.specs.Formats.{rdata_format}
use Rattle.dns_record.specs.CharacterStrings.{character_string, character_strings}
use Rattle.dns_record.specs.TypeBitMaps.{bitmap, some_bitmap}
use Rattle.dns_record.proofs.Stepped.{stepped}
use Rattle.dns_boxed.specs.Boxed.{is_readable, spelled_fields}
use Rattle.dns_rdata.proofs.FormatLemmas.{put_in}
use Rattle.dns_boxed.specs.ReadableOctets.{spelled_is}

-- a field that is read for a kind
abbrev pub OfKind : Kind → Field → Type 0
OfKind Kind.Byte (Byte b) = Unit {0}
OfKind (Kind.Number w) (Number v n) = v ≡ w
OfKind (Kind.FixedOctets n) (OtherOctets octets) = Unit {0}
OfKind Kind.CompressibleName (CompressibleName labels) = Unit {0}
OfKind Kind.UncompressedName (UncompressedName labels) = Unit {0}
OfKind Kind.CharacterString (CharacterString octets) = Unit {0}
OfKind Kind.CountedOctets (CountedOctets octets) = Unit {0}
OfKind Kind.CharacterStrings (CharacterStrings octets) = Unit {0}
OfKind Kind.Options (OtherOctets octets) = Unit {0}
OfKind Kind.TypeBitMaps (OtherOctets octets) = Unit {0}
OfKind Kind.NonEmptyTypeBitMaps (OtherOctets octets) = Unit {0}
OfKind Kind.Rest (OtherOctets octets) = Unit {0}
OfKind kind field = ⊥

-- fields that are read for kinds
abbrev pub OfKinds : List Kind → List Field → Type 0
OfKinds [] [] = Unit {0}
OfKinds (kind ∷ kinds) (field ∷ fields) = OfKind kind field × OfKinds kinds fields
OfKinds kinds fields = ⊥

-- ---- what was read

field_shaped : (kind : Kind) (bytes : List ℕ) (field : Field) (rest : List ℕ) → field_of plain_name kind bytes ≡ Some (field, rest) → OfKind kind field
field_shaped Kind.Byte bytes field rest e = subst (OfKind Kind.Byte) (put_in Byte (octet bytes) field rest e).is tt
field_shaped (Kind.Number w) bytes field rest e = subst (OfKind (Kind.Number w)) (put_in (Number w) (number w bytes) field rest e).is refl
field_shaped (Kind.FixedOctets n) bytes field rest e = subst (OfKind (Kind.FixedOctets n)) (put_in OtherOctets (octets n bytes) field rest e).is tt
field_shaped Kind.CompressibleName bytes field rest e = subst (OfKind Kind.CompressibleName) (put_in CompressibleName (plain_name bytes) field rest e).is tt
field_shaped Kind.UncompressedName bytes field rest e = subst (OfKind Kind.UncompressedName) (put_in UncompressedName (plain_name bytes) field rest e).is tt
field_shaped Kind.CharacterString bytes field rest e = subst (OfKind Kind.CharacterString) (put_in CharacterString (character_string bytes) field rest e).is tt
field_shaped Kind.CountedOctets bytes field rest e = subst (OfKind Kind.CountedOctets) (put_in CountedOctets (character_string bytes) field rest e).is tt
field_shaped Kind.CharacterStrings bytes field rest e = subst (OfKind Kind.CharacterStrings) (put_in CharacterStrings (character_strings bytes) field rest e).is tt
field_shaped Kind.Options bytes field rest e = subst (OfKind Kind.Options) (put_in OtherOctets (options bytes) field rest e).is tt
field_shaped Kind.TypeBitMaps bytes field rest e = subst (OfKind Kind.TypeBitMaps) (put_in OtherOctets (bitmap bytes) field rest e).is tt
field_shaped Kind.NonEmptyTypeBitMaps bytes field rest e = subst (OfKind Kind.NonEmptyTypeBitMaps) (put_in OtherOctets (some_bitmap bytes) field rest e).is tt
field_shaped Kind.Rest bytes field rest e = subst (OfKind Kind.Rest) (some_pair_parts (OtherOctets bytes) field [] rest e).0 tt

fields_shaped : (kinds : List Kind) (bytes : List ℕ) (fields : List Field) (rest : List ℕ) → fields_of plain_name kinds bytes ≡ Some (fields, rest) → OfKinds kinds fields
fields_shaped [] bytes fields rest e = subst (OfKinds []) (some_pair_parts [] fields bytes rest e).0 tt
fields_shaped (kind ∷ kinds) bytes fields rest e =
    let f = stepped (field_of plain_name kind bytes) _ (fields, rest) e in
    let o = stepped (fields_of plain_name kinds f.value.1) _ (fields, rest) f.later in
    let same = some_pair_parts (f.value.0 ∷ o.value.0) fields o.value.1 rest o.later in
    subst (OfKinds (kind ∷ kinds)) same.0 (field_shaped kind bytes f.value.0 f.value.1 f.first, fields_shaped kinds f.value.1 o.value.0 o.value.1 o.first)

data_shaped : (rtype : ℕ) (bytes : List ℕ) (fields : List Field) → data_as plain_name rtype bytes ≡ Some fields → OfKinds (rdata_format rtype) fields
unfolding data_as
data_shaped rtype bytes fields e = by (fields_of plain_name (rdata_format rtype) bytes) refl e where
  by : (read : Option (List Field × List ℕ)) → fields_of plain_name (rdata_format rtype) bytes ≡ read → all_of read ≡ Some fields → OfKinds (rdata_format rtype) fields
  by None is h = absurd cc
  by (Some (found, [])) is h =
      let same : found ≡ fields = cc in
      subst (OfKinds (rdata_format rtype)) same (fields_shaped (rdata_format rtype) bytes found [] is)
  by (Some (found, x ∷ rest)) is h = absurd cc

pub spelled_shaped : (rtype : ℕ) (bytes : List ℕ) → is_readable rtype bytes ≡ true → OfKinds (rdata_format rtype) (spelled_fields rtype bytes)
spelled_shaped rtype bytes e = data_shaped rtype bytes (spelled_fields rtype bytes) (spelled_is rtype bytes e)

-- ---- widths

-- if both are numbers, they have as many bits
abbrev pub SameWidth : Field → Field → Type 0
SameWidth (Number v a) (Number w b) = v ≡ w
SameWidth f g = Unit {0}

abbrev pub SameWidths : List Field → List Field → Type 0
SameWidths (f ∷ fs) (g ∷ gs) = SameWidth f g × SameWidths fs gs
SameWidths fs gs = Unit {0}

width_of_kind : (kind : Kind) (f g : Field) → OfKind kind f → OfKind kind g → SameWidth f g
width_of_kind (Kind.Number w) (Number u a) (Number v b) p q = p ∙ sym q
width_of_kind kind (Number u a) (Number v b) p q = absurd p
width_of_kind kind f g p q = tt

pub widths_of_format : (kinds : List Kind) (fs gs : List Field) → OfKinds kinds fs → OfKinds kinds gs → SameWidths fs gs
widths_of_format (kind ∷ kinds) (f ∷ fs) (g ∷ gs) p q = (width_of_kind kind f g p.0 q.0, widths_of_format kinds fs gs p.1 q.1)
widths_of_format [] (f ∷ fs) (g ∷ gs) p q = absurd p
widths_of_format kinds fs gs p q = tt
