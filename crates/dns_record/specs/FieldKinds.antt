-- The kinds of fields in code, and the RDATA formats in these kinds: fields of fixed size that follow each other are one.
use Rattle.std.specs.Prelude.{ℕ, ◌+◌, Bool, true, false, List, [], ◌∷◌}
use Rattle.std.specs.Int.{byte_len}
use Rattle.dns_record.specs.Kinds.{Kind}
use Rattle.dns_record.specs.declared.field_kind.FieldKind.{FieldKind}
use Rattle.dns_record.specs.declared.field_kind.FieldKind.TheVariants.{Fixed, CompressibleName, UncompressedName, CharacterString, CountedOctets, CharacterStrings, Options, TypeBitMaps, NonEmptyTypeBitMaps, Rest}

-- a kind that reads the same octets
abbrev pub kind_of : FieldKind → Kind
kind_of (Fixed n) = Kind.FixedOctets n
kind_of CompressibleName = Kind.CompressibleName
kind_of UncompressedName = Kind.UncompressedName
kind_of CharacterString = Kind.CharacterString
kind_of CountedOctets = Kind.CountedOctets
kind_of CharacterStrings = Kind.CharacterStrings
kind_of Options = Kind.Options
kind_of TypeBitMaps = Kind.TypeBitMaps
kind_of NonEmptyTypeBitMaps = Kind.NonEmptyTypeBitMaps
kind_of Rest = Kind.Rest

-- octets before others
abbrev pub with_fixed : ℕ → List FieldKind → List FieldKind
with_fixed n (Fixed m ∷ row) = Fixed (n + m) ∷ row
with_fixed n row = Fixed n ∷ row

abbrev pub row_with : Kind → List FieldKind → List FieldKind
row_with Kind.Byte row = with_fixed 1 row
row_with (Kind.Number w) row = with_fixed (byte_len w) row
row_with (Kind.FixedOctets n) row = with_fixed n row
row_with Kind.CompressibleName row = CompressibleName ∷ row
row_with Kind.UncompressedName row = UncompressedName ∷ row
row_with Kind.CharacterString row = CharacterString ∷ row
row_with Kind.CountedOctets row = CountedOctets ∷ row
row_with Kind.CharacterStrings row = CharacterStrings ∷ row
row_with Kind.Options row = Options ∷ row
row_with Kind.TypeBitMaps row = TypeBitMaps ∷ row
row_with Kind.NonEmptyTypeBitMaps row = NonEmptyTypeBitMaps ∷ row
row_with Kind.Rest row = Rest ∷ row

-- the kinds in code of the kinds of fields
abbrev pub row_of : List Kind → List FieldKind
row_of [] = []
row_of (kind ∷ kinds) = row_with kind (row_of kinds)

-- names
abbrev pub is_name_kind : FieldKind → Bool
is_name_kind CompressibleName = true
is_name_kind UncompressedName = true
is_name_kind kind = false
