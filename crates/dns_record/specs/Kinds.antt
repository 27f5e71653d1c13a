-- Kinds of fields, and what they read. Names that pointers may lead through are read by a grammar that is passed in, so that
-- one table serves names of any type, with pointers and without.
use Rattle.std.specs.Prelude.{ℕ, List, [], ◌∷◌, Option, Some, None}
use Rattle.std.specs.Int.{Width}
use Rattle.dns_wire.specs.Octets.{Octets, Labels}
use Rattle.dns_wire.specs.Names.{plain_name}
use Rattle.dns_wire.specs.Reading.{octet, octets, number, plain_at}
use Rattle.dns_record.specs.Fields.{FieldOf}
use Rattle.dns_record.specs.Options.{options}
use Rattle.dns_record.specs.CharacterStrings.{character_string, character_strings}
use Rattle.dns_record.specs.TypeBitMaps.{bitmap, some_bitmap}
use Rattle.dns_wire.specs.Steps.{◌>>=◌, first_to}

pub data Kind : Type 0 where
  Byte : Kind
  Number : Width → Kind
  FixedOctets : ℕ → Kind  -- that many octets
  CompressibleName : Kind  -- a name, which in a message may have pointers
  UncompressedName : Kind  -- a name without pointers
  CharacterString : Kind  -- octets after an octet with their number, compared without regard to ASCII case
  CountedOctets : Kind  -- octets after an octet with their number, compared as they are
  CharacterStrings : Kind  -- character strings, at least one, up to the end
  Options : Kind  -- options, perhaps none, up to the end
  TypeBitMaps : Kind  -- a bitmap of types, up to the end
  NonEmptyTypeBitMaps : Kind  -- the same with one window at least
  Rest : Kind  -- all that remains

-- ---- at the start of octets

abbrev pub field_of : {N : Type 0} → (Octets → Option (N × Octets)) → Kind → Octets → Option (FieldOf N × Octets)
field_of name Byte bytes = first_to FieldOf.Byte (octet bytes)
field_of name (Number w) bytes = first_to (FieldOf.Number w) (number w bytes)
field_of name (FixedOctets n) bytes = first_to FieldOf.OtherOctets (octets n bytes)
field_of name CompressibleName bytes = first_to FieldOf.CompressibleName (name bytes)
field_of name UncompressedName bytes = first_to FieldOf.UncompressedName (plain_name bytes)
field_of name CharacterString bytes = first_to FieldOf.CharacterString (character_string bytes)
field_of name CountedOctets bytes = first_to FieldOf.CountedOctets (character_string bytes)
field_of name CharacterStrings bytes = first_to FieldOf.CharacterStrings (character_strings bytes)
field_of name Options bytes = first_to FieldOf.OtherOctets (options bytes)
field_of name TypeBitMaps bytes = first_to FieldOf.OtherOctets (bitmap bytes)
field_of name NonEmptyTypeBitMaps bytes = first_to FieldOf.OtherOctets (some_bitmap bytes)
field_of name Rest bytes = Some (FieldOf.OtherOctets bytes, [])

-- the fields of these kinds, one after another, and the octets after them
abbrev pub fields_of : {N : Type 0} → (Octets → Option (N × Octets)) → List Kind → Octets → Option (List (FieldOf N) × Octets)
fields_of name [] bytes = Some ([], bytes)
fields_of name (kind ∷ kinds) bytes = do
  (field, after_field) ← field_of name kind bytes
  (others, rest) ← fields_of name kinds after_field
  Some (field ∷ others, rest)

-- ---- at a place in the contents of a message

abbrev pub field_in : {N : Type 0} → (Octets → ℕ → Option (N × ℕ)) → Kind → Octets → ℕ → Option (FieldOf N × ℕ)
field_in name Byte contents at = first_to FieldOf.Byte (plain_at octet contents at)
field_in name (Number w) contents at = first_to (FieldOf.Number w) (plain_at (number w) contents at)
field_in name (FixedOctets n) contents at = first_to FieldOf.OtherOctets (plain_at (octets n) contents at)
field_in name CompressibleName contents at = first_to FieldOf.CompressibleName (name contents at)
field_in name UncompressedName contents at = first_to FieldOf.UncompressedName (plain_at plain_name contents at)
field_in name CharacterString contents at = first_to FieldOf.CharacterString (plain_at character_string contents at)
field_in name CountedOctets contents at = first_to FieldOf.CountedOctets (plain_at character_string contents at)
field_in name CharacterStrings contents at = first_to FieldOf.CharacterStrings (plain_at character_strings contents at)
field_in name Options contents at = first_to FieldOf.OtherOctets (plain_at options contents at)
field_in name TypeBitMaps contents at = first_to FieldOf.OtherOctets (plain_at bitmap contents at)
field_in name NonEmptyTypeBitMaps contents at = first_to FieldOf.OtherOctets (plain_at some_bitmap contents at)
field_in name Rest contents at = first_to FieldOf.OtherOctets (plain_at (λ bytes. Some (bytes, [])) contents at)

-- the fields of these kinds, one after another, and where the last ends
abbrev pub fields_in : {N : Type 0} → (Octets → ℕ → Option (N × ℕ)) → List Kind → Octets → ℕ → Option (List (FieldOf N) × ℕ)
fields_in name [] contents at = Some ([], at)
fields_in name (kind ∷ kinds) contents at = do
  (field, after_field) ← field_in name kind contents at
  (others, end) ← fields_in name kinds contents after_field
  Some (field ∷ others, end)

-- ---- data in which no name may have pointers

abbrev pub no_name : Octets → Option (Labels × Octets)
no_name bytes = None
