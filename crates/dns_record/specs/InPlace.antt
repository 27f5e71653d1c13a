-- Questions, records and their data in place, in the words of the standard (RFC 1035 sections 3.2.1, 3.3 and 4.1). Contents
-- are a message's octets after its header. Each relation says what goes from a place up to an end.
use Rattle.std.specs.Prelude.{◌≡◌, ℕ, suc, ◌+◌, ◌-◌, ◌≤◌, ◌<◌, ◌^◌, List, [], ◌∷◌, ◌++◌, length, take, drop, slice_index, ⊤}
use Rattle.std.specs.Int.{Width, w16, w32, byte_len, from_be_bytes}
use Rattle.dns_wire.specs.Octets.{Octets, Labels}
use Rattle.dns_wire.specs.Names.{IsName, wire}
use Rattle.dns_wire.specs.Pointers.{NameAt}
use Rattle.dns_record.specs.Fields.{Field}
use Rattle.dns_record.specs.Fields.FieldOf.{CompressibleName, UncompressedName, CharacterString, CountedOctets, CharacterStrings, OtherOctets, Byte, Number}
use Rattle.dns_record.specs.Kinds.{Kind}
use Rattle.dns_record.specs.Questions.{QuestionOf}
use Rattle.dns_record.specs.Records.{RecordOf}
use Rattle.dns_record.specs.Formats.{rdata_format}
use Rattle.dns_record.specs.Options.{OptionSeen}
use Rattle.dns_record.specs.CharacterStrings.{character_strings_octets}
use Rattle.dns_record.specs.TypeBitMaps.{Window, windows_octets}

-- ---- octets, numbers and names

-- these octets
pub record OctetsAt (contents : Octets) (at : ℕ) (octets : Octets) (end : ℕ) : Type 0 where
  pub end_is : end ≡ at + length octets
  pub within : end ≤ length contents
  pub occur : octets ≡ take (length octets) (drop at contents)

-- a number of that many bits, the most significant octet first
pub record NumberAt (contents : Octets) (at : ℕ) (w : Width) (n : ℕ) (end : ℕ) : Type 0 where
  pub end_is : end ≡ at + byte_len w
  pub within : end ≤ length contents
  pub is : n ≡ from_be_bytes w (take (byte_len w) (drop at contents))

-- a name without pointers
pub record PlainNameAt (contents : Octets) (at : ℕ) (labels : Labels) (end : ℕ) : Type 0 where
  pub name : IsName labels
  pub occurs : OctetsAt contents at (wire labels) end

-- these octets are strings, at least one, each after an octet with their number, and no more than a size can say
pub record AreCharacterStrings (octets : Octets) : Type 0 where
  pub first : Octets
  pub others : List Octets
  pub is : octets ≡ character_strings_octets (first ∷ others)
  pub short : length octets < 2 ^ 16

-- these octets are options one after another: two octets of a code, two of a size, and that many
abbrev pub FilledBy : List OptionSeen → Octets → Type 0
FilledBy [] octets = octets ≡ []
FilledBy (option ∷ others) octets =
    (code size rest : Octets) × (octets ≡ code ++ (size ++ (option.content ++ rest))) × (length code ≡ 2) × (length size ≡ 2)
    × (option.code ≡ from_be_bytes w16 code) × (length option.content ≡ from_be_bytes w16 size) × FilledBy others rest

-- and no more than a size can say
pub record AreOptions (octets : Octets) : Type 0 where
  pub options : List OptionSeen
  pub filled : FilledBy options octets
  pub short : length octets < 2 ^ 16

-- from 1 to 32 octets, of which the last is not 0
pub record AreBits (bits : Octets) : Type 0 where
  pub some : 1 ≤ length bits
  pub few : length bits ≤ 32
  pub last : 0 < slice_index bits (length bits - 1)

-- windows whose numbers strictly rise from at least this one on
abbrev pub WindowsFrom : ℕ → List Window → Type 0
WindowsFrom least [] = ⊤
WindowsFrom least (window ∷ others) = (least ≤ window.number) × AreBits window.bits × WindowsFrom (suc window.number) others

-- these octets are windows of bits
pub record AreWindows (octets : Octets) : Type 0 where
  pub windows : List Window
  pub rise : WindowsFrom 0 windows
  pub is : octets ≡ windows_octets windows

-- ---- fields

-- a field of a kind
abbrev pub FieldAt : Kind → Octets → ℕ → Field → ℕ → Type 0
FieldAt Kind.Byte contents at (Byte b) end = OctetsAt contents at (b ∷ []) end
FieldAt (Kind.Number w) contents at (Number v n) end = (v ≡ w) × NumberAt contents at w n end
FieldAt (Kind.FixedOctets n) contents at (OtherOctets octets) end = (length octets ≡ n) × OctetsAt contents at octets end
FieldAt Kind.CompressibleName contents at (CompressibleName labels) end = NameAt contents at labels end
FieldAt Kind.UncompressedName contents at (UncompressedName labels) end = PlainNameAt contents at labels end
FieldAt Kind.CharacterString contents at (CharacterString octets) end = OctetsAt contents at (length octets ∷ octets) end
FieldAt Kind.CountedOctets contents at (CountedOctets octets) end = OctetsAt contents at (length octets ∷ octets) end
FieldAt Kind.CharacterStrings contents at (CharacterStrings octets) end = (end ≡ length contents) × OctetsAt contents at octets end × AreCharacterStrings octets
FieldAt Kind.Options contents at (OtherOctets octets) end = (end ≡ length contents) × OctetsAt contents at octets end × AreOptions octets
FieldAt Kind.TypeBitMaps contents at (OtherOctets octets) end = (end ≡ length contents) × OctetsAt contents at octets end × AreWindows octets
FieldAt Kind.NonEmptyTypeBitMaps contents at (OtherOctets octets) end = (end ≡ length contents) × OctetsAt contents at octets end × AreWindows octets × (1 ≤ length octets)
FieldAt Kind.Rest contents at (OtherOctets octets) end = (end ≡ length contents) × OctetsAt contents at octets end
FieldAt kind contents at field end = ⊥

-- fields of these kinds, one after another
abbrev pub FieldsAt : List Kind → Octets → ℕ → List Field → ℕ → Type 0
FieldsAt [] contents at fields end = (fields ≡ []) × (end ≡ at)
FieldsAt (kind ∷ kinds) contents at fields end =
    (field : Field) × (next : ℕ) × (others : List Field) × FieldAt kind contents at field next × (fields ≡ field ∷ others) × FieldsAt kinds contents next others end

-- the data of a type: the fields of its RDATA format, of which the last ends with the contents
abbrev pub DataAt : ℕ → Octets → ℕ → List Field → Type 0
DataAt rtype contents at fields = FieldsAt (rdata_format rtype) contents at fields (length contents)

-- ---- questions and records

-- a name, a type and a class
pub record QuestionAt (contents : Octets) (at : ℕ) (question : QuestionOf Labels) (end : ℕ) : Type 0 where
  pub name_end : ℕ
  pub type_end : ℕ
  pub name : NameAt contents at question.name name_end
  pub qtype : NumberAt contents name_end w16 question.qtype type_end
  pub class : NumberAt contents type_end w16 question.class end

-- An owner, a type, a class, a time to live and a size, and then data of exactly that size: they see nothing after the
-- record's end.
pub record RecordAt (contents : Octets) (at : ℕ) (r : RecordOf Labels (List Field)) (end : ℕ) : Type 0 where
  pub owner_end : ℕ
  pub type_end : ℕ
  pub class_end : ℕ
  pub ttl_end : ℕ
  pub size : ℕ
  pub size_end : ℕ
  pub owner : NameAt contents at r.owner owner_end
  pub rtype : NumberAt contents owner_end w16 r.rtype type_end
  pub class : NumberAt contents type_end w16 r.class class_end
  pub ttl : NumberAt contents class_end w32 r.ttl ttl_end
  pub size_is : NumberAt contents ttl_end w16 size size_end
  pub end_is : end ≡ size_end + size
  pub within : end ≤ length contents
  pub content : DataAt r.rtype (take end contents) size_end r.content
