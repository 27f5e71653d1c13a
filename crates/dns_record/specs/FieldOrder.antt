-- How data are compared and fed to a hasher: field by field, in the order in which the fields come on the wire.
use Rattle.std.specs.Prelude.{List, [], ◌∷◌, Bool, false, nat_eq}
use Rattle.std.specs.List.{flat_map}
use Rattle.std.specs.declared.cmp.Ordering.{Ordering}
use Rattle.std.specs.declared.cmp.Ordering.TheVariants.{Less}
use Rattle.std.specs.Cmp.Lexicographic.{pointwise, slice_cmp}
use Rattle.std.specs.Hash.{le_bytes, slice, u8}
use Rattle.std.specs.Int.{byte_len}
use Rattle.std.specs.Ordering.{nat_cmp}
use Rattle.dns_wire.specs.Octets.{Octets, Labels}
use Rattle.dns_record.specs.CharStrHashing.{charstr_writes}
use Rattle.dns_record.specs.CharStrs.{same_charstr}
use Rattle.dns_record.specs.Fields.{FieldOf}
use Rattle.dns_record.specs.Fields.FieldOf.{CompressibleName, UncompressedName, CharacterString, CountedOctets, CharacterStrings, OtherOctets, Byte, Number}
use Rattle.dns_record.specs.Strings.{same_strings, strings_in, strings_writes}

-- ---- order

-- two fields: names as given, for those that may have pointers and for those without; octets as they are; numbers as
-- numbers
abbrev pub field_cmp : {N : Type 0} → (N → N → Ordering) → (Labels → Labels → Ordering) → FieldOf N → FieldOf N → Ordering
field_cmp named uncompressed (CompressibleName a) (CompressibleName b) = named a b
field_cmp named uncompressed (UncompressedName a) (UncompressedName b) = uncompressed a b
field_cmp named uncompressed (CharacterString a) (CharacterString b) = slice_cmp nat_cmp a b
field_cmp named uncompressed (CountedOctets a) (CountedOctets b) = slice_cmp nat_cmp a b
field_cmp named uncompressed (CharacterStrings a) (CharacterStrings b) = slice_cmp nat_cmp a b
field_cmp named uncompressed (OtherOctets a) (OtherOctets b) = slice_cmp nat_cmp a b
field_cmp named uncompressed (Byte a) (Byte b) = nat_cmp a b
field_cmp named uncompressed (Number v a) (Number w b) = nat_cmp a b
field_cmp named uncompressed a b = Less

-- the first field that differs decides
abbrev pub fields_cmp : {N : Type 0} → (N → N → Ordering) → (Labels → Labels → Ordering) → List (FieldOf N) → List (FieldOf N) → Ordering
fields_cmp named uncompressed = slice_cmp (field_cmp named uncompressed)

-- ---- equality

-- two fields: names as given; character strings without regard to ASCII case (RFC 1035 section 2.3.3), those of TXT one by one;
-- other octets as they are; numbers as numbers
abbrev pub field_eq : {N : Type 0} → (N → N → Bool) → (Labels → Labels → Bool) → FieldOf N → FieldOf N → Bool
field_eq named uncompressed (CompressibleName a) (CompressibleName b) = named a b
field_eq named uncompressed (UncompressedName a) (UncompressedName b) = uncompressed a b
field_eq named uncompressed (CharacterString a) (CharacterString b) = same_charstr a b
field_eq named uncompressed (CountedOctets a) (CountedOctets b) = pointwise nat_eq a b
field_eq named uncompressed (CharacterStrings a) (CharacterStrings b) = same_strings (strings_in a) (strings_in b)
field_eq named uncompressed (OtherOctets a) (OtherOctets b) = pointwise nat_eq a b
field_eq named uncompressed (Byte a) (Byte b) = nat_eq a b
field_eq named uncompressed (Number v a) (Number w b) = nat_eq a b
field_eq named uncompressed a b = false

-- field by field
abbrev pub fields_eq : {N : Type 0} → (N → N → Bool) → (Labels → Labels → Bool) → List (FieldOf N) → List (FieldOf N) → Bool
fields_eq named uncompressed = pointwise (field_eq named uncompressed)

-- ---- hashing

-- what a field feeds: names as given; character strings in lowercase, those of TXT one by one; other octets after their number;
-- numbers by their octets, the least significant first
abbrev pub field_writes : {N : Type 0} → (N → List Octets) → (Labels → List Octets) → FieldOf N → List Octets
field_writes named uncompressed (CompressibleName name) = named name
field_writes named uncompressed (UncompressedName labels) = uncompressed labels
field_writes named uncompressed (CharacterString octets) = charstr_writes octets
field_writes named uncompressed (CountedOctets octets) = slice u8 octets
field_writes named uncompressed (CharacterStrings octets) = strings_writes (strings_in octets)
field_writes named uncompressed (OtherOctets octets) = slice u8 octets
field_writes named uncompressed (Byte b) = u8 b
field_writes named uncompressed (Number w n) = le_bytes (byte_len w) n ∷ []

-- one field after another
abbrev pub fields_writes : {N : Type 0} → (N → List Octets) → (Labels → List Octets) → List (FieldOf N) → List Octets
fields_writes named uncompressed = flat_map (field_writes named uncompressed)
