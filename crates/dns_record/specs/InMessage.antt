-- What questions, records and the fields of data write in a message: names as their type writes them there, all else whole.
use Rattle.std.specs.Prelude.{ℕ, List, [], ◌∷◌, ◌++◌, length, Option, Some, None, ⊤}
use Rattle.std.specs.Int.{w16, w32, to_be_bytes}
use Rattle.dns_wire.specs.Octets.{Octets, Places}
use Rattle.dns_wire.specs.Compression.{CompressedWrite}
use Rattle.dns_wire.specs.InMessage.{then_fits}
use Rattle.dns_wire.specs.Names.{wire}
use Rattle.dns_wire.specs.Layout.{LayoutPart, octets_writes, then_writes, both_layouts}
use Rattle.dns_wire.specs.Layout.LayoutPart.{NamePart, OctetsPart}
use Rattle.dns_num.specs.InMessage.{sized_compressed_writes, sized_fits}
use Rattle.dns_record.specs.Fields.{FieldOf}
use Rattle.dns_record.specs.Fields.FieldOf.{CompressibleName, UncompressedName, CharacterString, CountedOctets, CharacterStrings, OtherOctets, Byte, Number}

-- ---- questions

-- a name, a type and a class
abbrev pub question_writes : CompressedWrite → ℕ → ℕ → CompressedWrite
question_writes name qtype class = then_writes name (octets_writes (to_be_bytes w16 qtype ++ to_be_bytes w16 class))

-- ---- records

-- the octets between a record's owner and the size of its data
abbrev pub fixed_header : ℕ → ℕ → ℕ → Octets
fixed_header rtype class ttl = to_be_bytes w16 rtype ++ (to_be_bytes w16 class ++ to_be_bytes w32 ttl)

-- an owner, these octets, and data after their size
abbrev pub record_writes : CompressedWrite → Octets → CompressedWrite → CompressedWrite
record_writes owner numbers content = then_writes owner (then_writes (octets_writes numbers) (sized_compressed_writes w16 content))

-- what is prefixed in the owner fits, and so do the data after their size
abbrev pub record_fits : (Octets → Places → Type 0) → CompressedWrite → Octets → (Octets → Places → Type 0) → CompressedWrite → Octets → Places → Type 0
record_fits owner_fits owner numbers content_fits content =
    then_fits owner_fits owner (λ contents places. sized_fits w16 content_fits content (contents ++ numbers) places)

-- ---- fields of data

-- what is said of a name, or else of the field's octets
abbrev pub of_field : {N X : Type 0} → (N → X) → (Octets → X) → FieldOf N → X
of_field name whole (CompressibleName n) = name n
of_field name whole (UncompressedName labels) = whole (wire labels)
of_field name whole (CharacterString octets) = whole (length octets ∷ octets)
of_field name whole (CountedOctets octets) = whole (length octets ∷ octets)
of_field name whole (CharacterStrings octets) = whole octets
of_field name whole (OtherOctets octets) = whole octets
of_field name whole (Byte b) = whole (b ∷ [])
of_field name whole (Number w n) = whole (to_be_bytes w n)

-- fields one after another
abbrev pub fields_write : {N : Type 0} → (N → CompressedWrite) → List (FieldOf N) → CompressedWrite
fields_write name [] = octets_writes []
fields_write name (field ∷ fields) = then_writes (of_field name octets_writes field) (fields_write name fields)

-- what is prefixed in a field fits
abbrev pub field_fits : {N : Type 0} → (N → Octets → Places → Type 0) → FieldOf N → Octets → Places → Type 0
field_fits name (CompressibleName n) contents places = name n contents places
field_fits name (UncompressedName labels) contents places = ⊤
field_fits name (CharacterString octets) contents places = ⊤
field_fits name (CountedOctets octets) contents places = ⊤
field_fits name (CharacterStrings octets) contents places = ⊤
field_fits name (OtherOctets octets) contents places = ⊤
field_fits name (Byte b) contents places = ⊤
field_fits name (Number w n) contents places = ⊤

-- and so it does in each, where it is written
abbrev pub fields_fit : {N : Type 0} → (N → Octets → Places → Type 0) → (N → CompressedWrite) → List (FieldOf N) → Octets → Places → Type 0
fields_fit fits name [] contents places = ⊤
fields_fit fits name (field ∷ fields) contents places =
    then_fits (field_fits fits field) (of_field name octets_writes field) (fields_fit fits name fields) contents places

-- ---- parts of fields

-- the parts of a value that is one name, and of no other
abbrev pub one_name : Option (List LayoutPart) → Option (List LayoutPart)
one_name None = None
one_name (Some []) = None
one_name (Some (NamePart labels ∷ [])) = Some (NamePart labels ∷ [])
one_name (Some (NamePart labels ∷ part ∷ layout)) = None
one_name (Some (OctetsPart octets ∷ layout)) = None

-- a part for each field, if each name is one part
abbrev pub fields_layout : {N : Type 0} → (N → Option (List LayoutPart)) → List (FieldOf N) → Option (List LayoutPart)
fields_layout name [] = Some []
fields_layout name (field ∷ fields) = both_layouts (of_field (λ n. one_name (name n)) (λ octets. Some (OctetsPart octets ∷ [])) field) (fields_layout name fields)
