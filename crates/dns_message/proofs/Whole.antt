-- Well formed records are read back from their octets, and so are they in canonical form.
use Rattle.std.proofs.Common.{◌≡◌, ℕ, ◌<◌, ◌^◌, Bool, true, false, cond, List, [], ◌∷◌, ◌++◌, length, Option, Some, None, refl, sym, ap, subst, ◌∙◌, arith}
use Rattle.std.specs.Prelude.{map, ◌↔◌}
use Rattle.std.specs.Int.{w16, w32, to_be_bytes}
use Rattle.std.specs.Str.{str_to_ascii_lowercase}
use Rattle.std.proofs.lemmas.List.{append-nil}
use Rattle.std.proofs.lemmas.Str.Ascii.{lowercase-lowercase}
use Rattle.std.proofs.lemmas.Option.{some_pair_parts}
use Rattle.dns_wire.specs.Names.{wire, lowered, IsName, plain_name}
use Rattle.dns_wire.specs.Reading.{AreOctets, all_of}
use Rattle.dns_wire.proofs.Lowered.{lower_wire, name_lowered}
use Rattle.dns_wire.proofs.Spelled.{plain_name_again}
use Rattle.dns_record.specs.Data.{data_as}
use Rattle.dns_record.specs.Fields.{Field, field_octets, fields_octets, lowercased_field, canonical_fields}
use Rattle.dns_record.specs.Fields.FieldOf.{CompressibleName, UncompressedName, CharacterString, CountedOctets, CharacterStrings, OtherOctets, Byte, Number}
use Rattle.dns_record.specs.Kinds.{Kind, fields_of}
use Rattle.dns_record.specs.Records.{Parts, parts_at, record_at, octets_of_parts}
use Rattle.dns_record.specs.Formats.{rdata_format}
use Rattle.dns_record.specs.Types.{is_lowercased}
use Rattle.dns_record.proofs.Places.{octets_read}
use Rattle.dns_record.proofs.Sizes.{canonical_long}
use Rattle.dns_message.specs.Canonical.{lowercase_names, record_octets, canonical_wire, plain_record}
use Rattle.dns_message.specs.Messages.{RecordValue}
use Rattle.dns_message.specs.WellFormed.{WellFormed}
use Rattle.dns_message.proofs.Octets.{octets_in_prefix, octets_after, octets_of_both, octets_lowered, number_octets_2, number_octets_4}
use Rattle.dns_message.proofs.KindLemmas.{Suits, AllSuit, format_is_format, number_back, fields_back, fields_read}

-- ---- data

pub data_back : (rtype : ℕ) (fs : List Field) → AllSuit (rdata_format rtype) fs → data_as plain_name rtype (fields_octets fs) ≡ Some fs
unfolding data_as
data_back rtype fs is = ap all_of (fields_back (rdata_format rtype) fs (format_is_format rtype) is)

all_of_is : (read : Option (List Field × List ℕ)) (fs : List Field) → all_of read ≡ Some fs → read ≡ Some (fs, [])
all_of_is None fs e = absurd cc
all_of_is (Some (gs, [])) fs e = let same : gs ≡ fs = cc in ap (λ (l : List Field). Some (l, [])) same
all_of_is (Some (gs, x ∷ rest)) fs e = absurd cc

data_suits : (rtype : ℕ) (bytes : List ℕ) (fs : List Field) → AreOctets bytes → data_as plain_name rtype bytes ≡ Some fs → AllSuit (rdata_format rtype) fs
unfolding data_as
data_suits rtype bytes fs are e = (fields_read (rdata_format rtype) fs bytes [] (format_is_format rtype) are (all_of_is (fields_of plain_name (rdata_format rtype) bytes) fs e)).0

-- ---- octets of a record

-- the octets after an owner
pub tail_octets : (rtype class ttl : ℕ) (body : List ℕ) → AreOctets body → AreOctets (to_be_bytes w16 rtype ++ (to_be_bytes w16 class ++ (to_be_bytes w32 ttl ++ (to_be_bytes w16 (length body) ++ body))))
tail_octets rtype class ttl body are =
    let five = to_be_bytes w16 (length body) ++ body in
    let four = to_be_bytes w32 ttl ++ five in
    let three = to_be_bytes w16 class ++ four in
    octets_of_both (to_be_bytes w16 rtype) three (number_octets_2 rtype)
    (octets_of_both (to_be_bytes w16 class) four (number_octets_2 class)
    (octets_of_both (to_be_bytes w32 ttl) five (number_octets_4 ttl)
    (octets_of_both (to_be_bytes w16 (length body)) body (number_octets_2 (length body)) are)))

pub parts_octets : (owner : List (List ℕ)) (rtype class ttl : ℕ) (body : List ℕ) → AreOctets (wire owner) → AreOctets body → AreOctets (octets_of_parts (wire owner) rtype class ttl body)
parts_octets owner rtype class ttl body named are = octets_of_both (wire owner) (to_be_bytes w16 rtype ++ (to_be_bytes w16 class ++ (to_be_bytes w32 ttl ++ (to_be_bytes w16 (length body) ++ body)))) named (tail_octets rtype class ttl body are)

pub owner_octets : (r : RecordValue) → WellFormed r → AreOctets (wire r.owner)
owner_octets r is =
    let body = fields_octets r.content in
    octets_in_prefix (wire r.owner) (to_be_bytes w16 r.rtype ++ (to_be_bytes w16 r.class ++ (to_be_bytes w32 r.ttl ++ (to_be_bytes w16 (length body) ++ body)))) is.octets

pub body_octets : (r : RecordValue) → WellFormed r → AreOctets (fields_octets r.content)
body_octets r is =
    let body = fields_octets r.content in
    let five = to_be_bytes w16 (length body) ++ body in
    let four = to_be_bytes w32 r.ttl ++ five in
    let three = to_be_bytes w16 r.class ++ four in
    let two = to_be_bytes w16 r.rtype ++ three in
    octets_after (to_be_bytes w16 (length body)) body (octets_after (to_be_bytes w32 r.ttl) five (octets_after (to_be_bytes w16 r.class) four
    (octets_after (to_be_bytes w16 r.rtype) three (octets_after (wire r.owner) two is.octets))))

pub content_suits : (r : RecordValue) → WellFormed r → AllSuit (rdata_format r.rtype) r.content
content_suits r is = data_suits r.rtype (fields_octets r.content) r.content (body_octets r is) is.content

-- ---- in lowercase

suits_lowercased : (kind : Kind) (f : Field) → Suits kind f → Suits kind (lowercased_field f)
suits_lowercased Kind.CompressibleName (CompressibleName labels) is = name_lowered labels is
suits_lowercased Kind.UncompressedName (UncompressedName labels) is = name_lowered labels is
suits_lowercased kind (CharacterString o) is = is
suits_lowercased kind (CountedOctets o) is = is
suits_lowercased kind (CharacterStrings o) is = is
suits_lowercased kind (OtherOctets o) is = is
suits_lowercased kind (Byte b) is = is
suits_lowercased kind (Number w n) is = is
suits_lowercased kind f is = absurd is

all_lowercased : (kinds : List Kind) (fs : List Field) → AllSuit kinds fs → AllSuit kinds (map lowercased_field fs)
all_lowercased [] [] is = tt
all_lowercased [] (f ∷ fs) is = absurd is
all_lowercased (kind ∷ kinds) [] is = absurd is
all_lowercased (kind ∷ kinds) (f ∷ fs) is = (suits_lowercased kind f is.0, all_lowercased kinds fs is.1)

pub canonical_suits : (kinds : List Kind) (rtype : ℕ) (fs : List Field) → AllSuit kinds fs → AllSuit kinds (canonical_fields rtype fs)
canonical_suits kinds rtype fs is = by (is_lowercased rtype) where
  by : (b : Bool) → AllSuit kinds (cond b (map lowercased_field fs) fs)
  by true = all_lowercased kinds fs is
  by false = is

pub name_octets_lowered : (labels : List (List ℕ)) → IsName labels → AreOctets (wire labels) → AreOctets (wire (lowered labels))
name_octets_lowered labels is are = subst AreOctets (lower_wire labels is.sizes) (octets_lowered (wire labels) are)

field_octets_lowercased : (kind : Kind) (f : Field) → Suits kind f → AreOctets (field_octets f) → AreOctets (field_octets (lowercased_field f))
field_octets_lowercased Kind.CompressibleName (CompressibleName labels) is are = name_octets_lowered labels is are
field_octets_lowercased Kind.UncompressedName (UncompressedName labels) is are = name_octets_lowered labels is are
field_octets_lowercased kind (CharacterString o) is are = are
field_octets_lowercased kind (CountedOctets o) is are = are
field_octets_lowercased kind (CharacterStrings o) is are = are
field_octets_lowercased kind (OtherOctets o) is are = are
field_octets_lowercased kind (Byte b) is are = are
field_octets_lowercased kind (Number w n) is are = are
field_octets_lowercased kind f is are = absurd is

octets_lowercased : (kinds : List Kind) (fs : List Field) → AllSuit kinds fs → AreOctets (fields_octets fs) → AreOctets (fields_octets (map lowercased_field fs))
octets_lowercased [] [] is are = are
octets_lowercased [] (f ∷ fs) is are = absurd is
octets_lowercased (kind ∷ kinds) [] is are = absurd is
octets_lowercased (kind ∷ kinds) (f ∷ fs) is are =
    octets_of_both (field_octets (lowercased_field f)) (fields_octets (map lowercased_field fs))
    (field_octets_lowercased kind f is.0 (octets_in_prefix (field_octets f) (fields_octets fs) are))
    (octets_lowercased kinds fs is.1 (octets_after (field_octets f) (fields_octets fs) are))

octets_canonical : (kinds : List Kind) (rtype : ℕ) (fs : List Field) → AllSuit kinds fs → AreOctets (fields_octets fs) → AreOctets (fields_octets (canonical_fields rtype fs))
octets_canonical kinds rtype fs is are = by (is_lowercased rtype) where
  by : (b : Bool) → AreOctets (fields_octets (cond b (map lowercased_field fs) fs))
  by true = octets_lowercased kinds fs is are
  by false = are

-- the canonical octets are octets
pub canonical_wire_octets : (r : RecordValue) → WellFormed r → AreOctets (canonical_wire r)
canonical_wire_octets r is =
    parts_octets (lowered r.owner) r.rtype r.class r.ttl (fields_octets (canonical_fields r.rtype r.content)) (name_octets_lowered r.owner is.owner (owner_octets r is))
    (octets_canonical (rdata_format r.rtype) r.rtype r.content (content_suits r is) (body_octets r is))

pub well_formed_lowercased : (r : RecordValue) → WellFormed r → WellFormed (lowercase_names r)
well_formed_lowercased r is = record {
  owner = name_lowered r.owner is.owner;
  rtype = is.rtype;
  class = is.class;
  ttl = is.ttl;
  size = omega (arith, is.size, canonical_long r.rtype r.content);
  content = data_back r.rtype (canonical_fields r.rtype r.content) (canonical_suits (rdata_format r.rtype) r.rtype r.content (content_suits r is));
  octets = canonical_wire_octets r is;
}

-- ---- read back

-- the parts of a record are read from their octets, whatever follows them
pub parts_back : (p : Parts) (rest : List ℕ) → p.rtype < 2 ^ 16 → p.class < 2 ^ 16 → p.ttl < 2 ^ 32 → length p.content < 2 ^ 16
    → parts_at (to_be_bytes w16 p.rtype ++ (to_be_bytes w16 p.class ++ (to_be_bytes w32 p.ttl ++ (to_be_bytes w16 (length p.content) ++ (p.content ++ rest))))) ≡ Some (p, rest)
unfolding parts_at
parts_back p rest rtype class ttl size =
    let five = to_be_bytes w16 (length p.content) ++ (p.content ++ rest) in
    let four = to_be_bytes w32 p.ttl ++ five in
    let three = to_be_bytes w16 p.class ++ four in
    rw (
      number_back w16 p.rtype three rtype,
      number_back w16 p.class four class,
      number_back w32 p.ttl five ttl,
      number_back w16 (length p.content) (p.content ++ rest) size,
      octets_read (length p.content) p.content rest refl,
    ) refl

-- a well formed record is read from its octets, whatever follows them
pub inner_back : (r : RecordValue) (rest : List ℕ) → WellFormed r
    → plain_record (wire r.owner ++ (to_be_bytes w16 r.rtype ++ (to_be_bytes w16 r.class ++ (to_be_bytes w32 r.ttl ++ (to_be_bytes w16 (length (fields_octets r.content)) ++ (fields_octets r.content ++ rest)))))) ≡ Some (r, rest)
unfolding record_at
inner_back r rest is =
    let parts : Parts = record { rtype = r.rtype; class = r.class; ttl = r.ttl; content = fields_octets r.content } in
    let two = to_be_bytes w16 r.rtype ++ (to_be_bytes w16 r.class ++ (to_be_bytes w32 r.ttl ++ (to_be_bytes w16 (length (fields_octets r.content)) ++ (fields_octets r.content ++ rest)))) in
    rw (plain_name_again (wire r.owner ++ two) r.owner two is.owner refl, parts_back parts rest is.rtype is.class is.ttl is.size, is.content) refl

pub record_back : (r : RecordValue) → WellFormed r → plain_record (record_octets r) ≡ Some (r, [])
record_back r is =
    ap (λ (l : List ℕ). plain_record (wire r.owner ++ (to_be_bytes w16 r.rtype ++ (to_be_bytes w16 r.class ++ (to_be_bytes w32 r.ttl ++ (to_be_bytes w16 (length (fields_octets r.content)) ++ l))))))
    (sym (append-nil (fields_octets r.content)))
    ∙ inner_back r [] is

pub canonical_wire_back : (r : RecordValue) → WellFormed r → plain_record (canonical_wire r) ≡ Some (lowercase_names r, [])
canonical_wire_back r is = record_back (lowercase_names r) (well_formed_lowercased r is)

pub canonical_wire_same : (r s : RecordValue) → WellFormed r → WellFormed s → (canonical_wire r ≡ canonical_wire s) ↔ (lowercase_names r ≡ lowercase_names s)
canonical_wire_same r s is js = (
  λ e. (some_pair_parts (lowercase_names r) (lowercase_names s) [] [] (sym (canonical_wire_back r is) ∙ ap plain_record e ∙ canonical_wire_back s js)).0,
  λ e. ap record_octets e,
)

-- ---- lowercase letters stay

pub lower_twice : (octets : List ℕ) → str_to_ascii_lowercase (str_to_ascii_lowercase octets) ≡ str_to_ascii_lowercase octets
lower_twice [] = refl
lower_twice (b ∷ rest) = rw (lowercase-lowercase b, lower_twice rest) refl

pub lowered_twice : (labels : List (List ℕ)) → lowered (lowered labels) ≡ lowered labels
lowered_twice [] = refl
lowered_twice (label ∷ labels) = rw (lower_twice label, lowered_twice labels) refl

field_twice : (f : Field) → lowercased_field (lowercased_field f) ≡ lowercased_field f
field_twice (CompressibleName labels) = ap CompressibleName (lowered_twice labels)
field_twice (UncompressedName labels) = ap UncompressedName (lowered_twice labels)
field_twice (CharacterString o) = refl
field_twice (CountedOctets o) = refl
field_twice (CharacterStrings o) = refl
field_twice (OtherOctets o) = refl
field_twice (Byte b) = refl
field_twice (Number w n) = refl

fields_twice : (fs : List Field) → map lowercased_field (map lowercased_field fs) ≡ map lowercased_field fs
fields_twice [] = refl
fields_twice (f ∷ fs) = rw (field_twice f, fields_twice fs) refl

pub canonical_twice : (rtype : ℕ) (fs : List Field) → canonical_fields rtype (canonical_fields rtype fs) ≡ canonical_fields rtype fs
canonical_twice rtype fs = by (is_lowercased rtype) where
  by : (b : Bool) → cond b (map lowercased_field (cond b (map lowercased_field fs) fs)) (cond b (map lowercased_field fs) fs) ≡ cond b (map lowercased_field fs) fs
  by true = fields_twice fs
  by false = refl

pub lowercase_twice : (r : RecordValue) → lowercase_names (lowercase_names r) ≡ lowercase_names r
lowercase_twice r = λ i. record { owner = lowered_twice r.owner i; rtype = r.rtype; class = r.class; ttl = r.ttl; content = canonical_twice r.rtype r.content i }

pub canonical_wire_twice : (r : RecordValue) → canonical_wire (lowercase_names r) ≡ canonical_wire r
canonical_wire_twice r = ap record_octets (lowercase_twice r)
