-- The fields of record data, whatever their type (RFC 1035 section 3.3).
use Rattle.std.specs.Prelude.{ℕ, List, [], ◌∷◌, ◌++◌, length, map, if◌then◌else◌}
use Rattle.std.specs.Int.{Width, to_be_bytes}
use Rattle.dns_wire.specs.Octets.{Octets, Labels}
use Rattle.dns_wire.specs.Names.{wire, lowered}
use Rattle.dns_record.specs.Types.{is_lowercased}

-- The words are those of `Kind`. Octets of any other kind are `OtherOctets`.
pub data FieldOf (N : Type 0) : Type 0 where
  CompressibleName : N → FieldOf N  -- a name that in a message may have pointers, as its type sees it
  UncompressedName : Labels → FieldOf N  -- a name without pointers, by its labels
  CharacterString : Octets → FieldOf N  -- without the octet before them
  CountedOctets : Octets → FieldOf N  -- without the octet before them
  CharacterStrings : Octets → FieldOf N  -- with the octet before each string
  OtherOctets : Octets → FieldOf N
  Byte : ℕ → FieldOf N
  Number : Width → ℕ → FieldOf N  -- of that many bits

-- fields whose names are seen as their labels
abbrev pub Field : Type 0
Field = FieldOf Labels

-- the field with what is seen of its name
abbrev pub named_by : {N S : Type 0} → (N → S) → FieldOf N → FieldOf S
named_by name (CompressibleName n) = CompressibleName (name n)
named_by name (UncompressedName labels) = UncompressedName labels
named_by name (CharacterString octets) = CharacterString octets
named_by name (CountedOctets octets) = CountedOctets octets
named_by name (CharacterStrings octets) = CharacterStrings octets
named_by name (OtherOctets octets) = OtherOctets octets
named_by name (Byte b) = Byte b
named_by name (Number w n) = Number w n

-- ---- octets

-- a field's octets, a name whole
abbrev pub field_octets : Field → Octets
field_octets (CompressibleName labels) = wire labels
field_octets (UncompressedName labels) = wire labels
field_octets (CharacterString octets) = length octets ∷ octets
field_octets (CountedOctets octets) = length octets ∷ octets
field_octets (CharacterStrings octets) = octets
field_octets (OtherOctets octets) = octets
field_octets (Byte b) = b ∷ []
field_octets (Number w n) = to_be_bytes w n

-- the octets of fields, one after another
abbrev pub fields_octets : List Field → Octets
fields_octets [] = []
fields_octets (field ∷ fields) = field_octets field ++ fields_octets fields

-- ---- in canonical form (RFC 4034 section 6.2, RFC 6840 section 5.1)

-- a name in lowercase; any other field stays
abbrev pub lowercased_field : Field → Field
lowercased_field (CompressibleName labels) = CompressibleName (lowered labels)
lowercased_field (UncompressedName labels) = UncompressedName (lowered labels)
lowercased_field (CharacterString octets) = CharacterString octets
lowercased_field (CountedOctets octets) = CountedOctets octets
lowercased_field (CharacterStrings octets) = CharacterStrings octets
lowercased_field (OtherOctets octets) = OtherOctets octets
lowercased_field (Byte b) = Byte b
lowercased_field (Number w n) = Number w n

-- the fields, with names in lowercase if the type is one of the nine
abbrev pub canonical_fields : ℕ → List Field → List Field
canonical_fields rtype fields = if is_lowercased rtype then map lowercased_field fields else fields

-- the canonical octets of data of a type
abbrev pub canonical_octets : ℕ → List Field → Octets
canonical_octets rtype fields = fields_octets (canonical_fields rtype fields)
