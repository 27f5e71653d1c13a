-- Shared names make nothing longer.
use Rattle.std.proofs.Common.{◌≡◌, ℕ, ◌+◌, ◌≤◌, List, [], ◌∷◌, ◌++◌, length, map, take, Option, Some, None, refl, arith}
use Rattle.std.specs.Prelude.{find}
use Rattle.std.specs.Int.{w16, to_be_bytes}
use Rattle.std.proofs.lemmas.List.{length-append, length-take}
use Rattle.std.proofs.lemmas.Option.{some_pair_parts}
use Rattle.dns_wire.specs.Compression.{or_shorter, longest_recorded, occurs_at, cut_at, compress, compressed_name_writes}
use Rattle.dns_wire.specs.Names.{labels_wire, wire}
use Rattle.dns_wire.specs.Layout.{list_writes, part_writes, laid}
use Rattle.dns_num.specs.InMessage.{zeros}
use Rattle.dns_record.specs.Fields.{Field, field_octets, fields_octets}
use Rattle.dns_record.specs.Fields.FieldOf.{CompressibleName, UncompressedName, CharacterString, CountedOctets, CharacterStrings, OtherOctets, Byte, Number}
use Rattle.dns_record.specs.InMessage.{fixed_header}
use Rattle.dns_message.specs.Built.{field_part, built}
use Rattle.dns_message.specs.Canonical.{record_octets}
use Rattle.dns_message.specs.Messages.{RecordValue}

-- ---- a name

-- a suffix that is known has a label, and so one octet at least after what is before it
recorded_within : (contents places : List ℕ) (before : ℕ) (labels : List (List ℕ)) (prefix place : ℕ) → longest_recorded contents places before labels ≡ Some (prefix, place)
    → prefix + 1 ≤ before + length (labels_wire labels)
unfolding longest_recorded
recorded_within contents places before [] prefix place e = absurd cc
recorded_within contents places before (label ∷ labels) prefix place e =
    by (find (occurs_at contents (label ∷ labels)) places) (recorded_within contents places (before + 1 + length label) labels prefix place) e where
      by : (found : Option ℕ) → (longest_recorded contents places (before + 1 + length label) labels ≡ Some (prefix, place) → prefix + 1 ≤ before + 1 + length label + length (labels_wire labels))
          → or_shorter before found (longest_recorded contents places (before + 1 + length label) labels) ≡ Some (prefix, place) → prefix + 1 ≤ before + length (labels_wire (label ∷ labels))
      by (Some at) later is = omega (arith, (some_pair_parts before prefix at place is).0)
      by None later is = omega (arith, length-append label (labels_wire labels), later is)

pub name_no_longer : (labels : List (List ℕ)) (contents places : List ℕ) → length (compress contents places labels) ≤ length (wire labels)
name_no_longer labels contents places = by (longest_recorded contents places 0 labels) refl where
  by : (recorded : Option (ℕ × ℕ)) → longest_recorded contents places 0 labels ≡ recorded → length (cut_at (wire labels) recorded) ≤ length (wire labels)
  by None is = omega arith
  by (Some (prefix, place)) is =
      let pointer = to_be_bytes w16 (49152 + 12 + place) in
      omega (arith, recorded_within contents places 0 labels prefix place is, length-append (labels_wire labels) (0 ∷ []), length-append (take prefix (wire labels)) pointer, length-take prefix (wire labels))

-- ---- fields, and records

field_no_longer : (field : Field) (contents places : List ℕ) → length (part_writes (field_part field) contents places).0 ≤ length (field_octets field)
field_no_longer (CompressibleName labels) contents places = name_no_longer labels contents places
field_no_longer (UncompressedName labels) contents places = omega arith
field_no_longer (CharacterString octets) contents places = omega arith
field_no_longer (CountedOctets octets) contents places = omega arith
field_no_longer (CharacterStrings octets) contents places = omega arith
field_no_longer (OtherOctets octets) contents places = omega arith
field_no_longer (Byte b) contents places = omega arith
field_no_longer (Number w n) contents places = omega arith

pub fields_no_longer : (fields : List Field) (contents places : List ℕ) → length (laid (map field_part fields) contents places).0 ≤ length (fields_octets fields)
unfolding list_writes
fields_no_longer [] contents places = omega arith
fields_no_longer (field ∷ fields) contents places =
    let first = part_writes (field_part field) contents places in
    let others = laid (map field_part fields) (contents ++ first.0) first.1 in
    omega (arith, field_no_longer field contents places, fields_no_longer fields (contents ++ first.0) first.1, length-append first.0 others.0, length-append (field_octets field) (fields_octets fields))

pub record_no_longer : (r : RecordValue) (contents places : List ℕ) → length (built r contents places).0 ≤ length (record_octets r)
record_no_longer r contents places =
    let owner = compressed_name_writes r.owner contents places in
    let numbers = fixed_header r.rtype r.class r.ttl in
    let at = ((contents ++ owner.0) ++ numbers) ++ zeros w16 in
    let content = (laid (map field_part r.content) at owner.1).0 in
    let body = fields_octets r.content in
    let size = to_be_bytes w16 (length content) in
    let size_whole = to_be_bytes w16 (length body) in
    omega (
      arith,
      name_no_longer r.owner contents places,
      fields_no_longer r.content at owner.1,
      length-append owner.0 (numbers ++ (size ++ content)),
      length-append numbers (size ++ content),
      length-append size content,
      length-append (wire r.owner) (numbers ++ (size_whole ++ body)),
      length-append numbers (size_whole ++ body),
      length-append size_whole body,
    )
