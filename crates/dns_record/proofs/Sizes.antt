-- The octets of data that are read, their names whole, are no more than a size can say.
use Rattle.std.proofs.Common.{◌≡◌, ℕ, ◌+◌, ◌*◌, ◌<◌, ◌≤◌, ◌^◌, ◌⊎◌, inl, inr, Bool, true, false, cond, List, [], ◌∷◌, length, Some, refl, sym, ap, ◌∙◌, arith}
use Rattle.std.specs.Prelude.{◌||◌, ◌&&◌, map, nat_le}
use Rattle.std.specs.Cmp.{first_so, second_so}
use Rattle.std.specs.Int.{Width, w8, w16, w32, w64, w128, byte_len, to_be_bytes}
use Rattle.std.proofs.lemmas.Bool.Decides.{nat_tests}
use Rattle.std.proofs.lemmas.List.{length-append}
use Rattle.dns_wire.proofs.Lowered.{lowered_long}
use Rattle.dns_record.specs.Data.{data_in}
use Rattle.dns_record.specs.Fields.{Field, field_octets, fields_octets, lowercased_field, canonical_octets}
use Rattle.dns_record.specs.Fields.FieldOf.{CompressibleName, UncompressedName, CharacterString, CountedOctets, CharacterStrings, OtherOctets, Byte, Number}
use Rattle.dns_record.specs.InPlace.{FieldAt, FieldsAt, DataAt}
use Rattle.dns_record.specs.Kinds.{Kind}
use Rattle.dns_record.specs.Formats.{rdata_format}
use Rattle.dns_record.specs.Types.{is_lowercased}
use Rattle.dns_record.proofs.EachFormat.{of_each_format}
use Rattle.dns_record.proofs.UncompressedNames.{is_uncompressed, all_uncompressed}
use Rattle.dns_wire.specs.Pointers.{name_at}
use Rattle.dns_record.proofs.Worded.{data_is}

-- ---- in lowercase

pub field_lowercased_long : (field : Field) → length (field_octets (lowercased_field field)) ≡ length (field_octets field)
field_lowercased_long (CompressibleName labels) = lowered_long labels
field_lowercased_long (UncompressedName labels) = lowered_long labels
field_lowercased_long (CharacterString octets) = refl
field_lowercased_long (CountedOctets octets) = refl
field_lowercased_long (CharacterStrings octets) = refl
field_lowercased_long (OtherOctets octets) = refl
field_lowercased_long (Byte b) = refl
field_lowercased_long (Number w n) = refl

-- lowercase letters are as many
pub lowercased_long : (fields : List Field) → length (fields_octets (map lowercased_field fields)) ≡ length (fields_octets fields)
lowercased_long [] = refl
lowercased_long (field ∷ fields) =
    length-append (field_octets (lowercased_field field)) (fields_octets (map lowercased_field fields))
    ∙ omega (arith, field_lowercased_long field, lowercased_long fields)
    ∙ sym (length-append (field_octets field) (fields_octets fields))

-- ---- fields that take as many octets as they have

digits_long : (w : Width) (n : ℕ) → length (to_be_bytes w n) ≡ byte_len w
digits_long w8 n = refl
digits_long w16 n = refl
digits_long w32 n = refl
digits_long w64 n = refl
digits_long w128 n = refl

field_long : (kind : Kind) (contents : List ℕ) (at : ℕ) (field : Field) (end : ℕ) → is_uncompressed kind ≡ true → FieldAt kind contents at field end → end ≡ at + length (field_octets field)
field_long Kind.Byte contents at (Byte b) end uncompressed is = is.end_is
field_long (Kind.Number w) contents at (Number v n) end uncompressed is = omega (arith, is.1.end_is, digits_long v n, ap byte_len is.0)
field_long (Kind.FixedOctets n) contents at (OtherOctets octets) end uncompressed is = is.1.end_is
field_long Kind.CompressibleName contents at field end uncompressed is = absurd cc
field_long Kind.UncompressedName contents at (UncompressedName labels) end uncompressed is = is.occurs.end_is
field_long Kind.CharacterString contents at (CharacterString octets) end uncompressed is = is.end_is
field_long Kind.CountedOctets contents at (CountedOctets octets) end uncompressed is = is.end_is
field_long Kind.CharacterStrings contents at (CharacterStrings octets) end uncompressed is = is.1.end_is
field_long Kind.Options contents at (OtherOctets octets) end uncompressed is = is.1.end_is
field_long Kind.TypeBitMaps contents at (OtherOctets octets) end uncompressed is = is.1.end_is
field_long Kind.NonEmptyTypeBitMaps contents at (OtherOctets octets) end uncompressed is = is.1.end_is
field_long Kind.Rest contents at (OtherOctets octets) end uncompressed is = is.1.end_is
field_long kind contents at field end uncompressed is = absurd is

fields_long : (kinds : List Kind) (contents : List ℕ) (at : ℕ) (fields : List Field) (end : ℕ) → all_uncompressed kinds ≡ true → FieldsAt kinds contents at fields end → end ≡ at + length (fields_octets fields)
fields_long [] contents at fields end uncompressed (none, here) = omega (arith, here, ap (λ (l : List Field). length (fields_octets l)) none)
fields_long (kind ∷ kinds) contents at fields end uncompressed (field, next, others, here, is, later) =
    let first = field_long kind contents at field next (first_so _ _ uncompressed) here in
    let rest = fields_long kinds contents next others end (second_so _ _ uncompressed) later in
    omega (arith, first, rest, ap (λ (l : List Field). length (fields_octets l)) is, length-append (field_octets field) (fields_octets others))

-- ---- fields that have few octets, whatever they take

abbrev is_small : Kind → Bool
is_small (Kind.Number w) = true
is_small Kind.CompressibleName = true
is_small kind = false

abbrev all_small : List Kind → Bool
all_small [] = true
all_small (kind ∷ kinds) = is_small kind && all_small kinds

number_small : (w : Width) → byte_len w ≤ 256
number_small w8 = omega arith
number_small w16 = omega arith
number_small w32 = omega arith
number_small w64 = omega arith
number_small w128 = omega arith

field_small : (kind : Kind) (contents : List ℕ) (at : ℕ) (field : Field) (end : ℕ) → is_small kind ≡ true → FieldAt kind contents at field end → length (field_octets field) ≤ 256
field_small (Kind.Number w) contents at (Number v n) end small is = omega (arith, digits_long v n, number_small v)
field_small Kind.CompressibleName contents at (CompressibleName labels) end small is = omega (arith, is.short)
field_small Kind.Byte contents at field end small is = absurd cc
field_small (Kind.FixedOctets n) contents at field end small is = absurd cc
field_small Kind.UncompressedName contents at field end small is = absurd cc
field_small Kind.CharacterString contents at field end small is = absurd cc
field_small Kind.CountedOctets contents at field end small is = absurd cc
field_small Kind.CharacterStrings contents at field end small is = absurd cc
field_small Kind.Options contents at field end small is = absurd cc
field_small Kind.TypeBitMaps contents at field end small is = absurd cc
field_small Kind.NonEmptyTypeBitMaps contents at field end small is = absurd cc
field_small Kind.Rest contents at field end small is = absurd cc
field_small kind contents at field end small is = absurd is

fields_small : (kinds : List Kind) (contents : List ℕ) (at : ℕ) (fields : List Field) (end : ℕ) → all_small kinds ≡ true → FieldsAt kinds contents at fields end → length (fields_octets fields) ≤ 256 * length kinds
fields_small [] contents at fields end small (none, here) = omega (arith, ap (λ (l : List Field). length (fields_octets l)) none)
fields_small (kind ∷ kinds) contents at fields end small (field, next, others, here, is, later) =
    let first = field_small kind contents at field next (first_so _ _ small) here in
    let rest = fields_small kinds contents next others end (second_so _ _ small) later in
    omega (arith, first, rest, ap (λ (l : List Field). length (fields_octets l)) is, length-append (field_octets field) (fields_octets others))

-- ---- RDATA formats

abbrev is_measured : List Kind → Bool
is_measured kinds = all_uncompressed kinds || (all_small kinds && nat_le (length kinds) 7)

abbrev Measured : List Kind → Type 0
Measured kinds = (all_uncompressed kinds ≡ true) ⊎ ((all_small kinds ≡ true) × (length kinds ≤ 7))

measured : (kinds : List Kind) → is_measured kinds ≡ true → Measured kinds
measured kinds e = by (all_uncompressed kinds) refl e where
  by : (b : Bool) → all_uncompressed kinds ≡ b → (b || (all_small kinds && nat_le (length kinds) 7)) ≡ true → Measured kinds
  by true is e = inl is
  by false is e = let few : nat_le (length kinds) 7 ≡ true = second_so _ _ e in inr (first_so _ _ e, grind (arith, nat_tests))

format_measured : (rtype : ℕ) → Measured (rdata_format rtype)
format_measured rtype = measured (rdata_format rtype) (of_each_format is_measured refl rtype)

-- ---- data

pub data_short_at : (rtype : ℕ) (contents : List ℕ) (at : ℕ) (fields : List Field) → length contents < at + 2 ^ 16 → DataAt rtype contents at fields → length (fields_octets fields) < 2 ^ 16
data_short_at rtype contents at fields short is = elim (format_measured rtype) [
  | inl uncompressed ↦ omega (arith, short, fields_long (rdata_format rtype) contents at fields (length contents) uncompressed is)
  | inr small ↦ omega (arith, fields_small (rdata_format rtype) contents at fields (length contents) small.0 is, small.1)
]

pub data_short : (rtype : ℕ) (contents : List ℕ) (at : ℕ) (fields : List Field) → length contents < at + 2 ^ 16 → data_in name_at rtype contents at ≡ Some fields → length (fields_octets fields) < 2 ^ 16
data_short rtype contents at fields short is = data_short_at rtype contents at fields short (data_is rtype contents at fields is)

-- ---- in canonical form

as_long : (lowercase : Bool) (fields : List Field) → length (fields_octets (cond lowercase (map lowercased_field fields) fields)) ≡ length (fields_octets fields)
as_long true fields = lowercased_long fields
as_long false fields = refl

-- canonical octets are as many as the octets of the fields
pub canonical_long : (rtype : ℕ) (fields : List Field) → length (canonical_octets rtype fields) ≡ length (fields_octets fields)
canonical_long rtype fields = as_long (is_lowercased rtype) fields
