-- What is built of well formed records is octets.
use Rattle.std.proofs.Common.{ℕ, ◌+◌, List, [], ◌∷◌, ◌++◌, length, map, take, Option, Some, None}
use Rattle.std.specs.Prelude.{replicate}
use Rattle.std.specs.Int.{w16, w32, to_be_bytes}
use Rattle.std.specs.List.{AllByRecursion}
use Rattle.dns_wire.specs.Compression.{compress, compressed_name_writes, cut_at, longest_recorded}
use Rattle.dns_wire.specs.Layout.{laid, list_writes, part_writes}
use Rattle.dns_wire.specs.Names.{wire}
use Rattle.dns_wire.specs.Reading.{AreOctets}
use Rattle.dns_num.specs.InMessage.{zeros}
use Rattle.dns_record.specs.Fields.{Field, field_octets, fields_octets}
use Rattle.dns_record.specs.Fields.FieldOf.{CompressibleName, UncompressedName, CharacterString, CountedOctets, CharacterStrings, OtherOctets, Byte, Number}
use Rattle.dns_record.specs.InMessage.{fixed_header}
use Rattle.dns_message.specs.Built.{built, field_part}
use Rattle.dns_message.specs.Messages.{RecordValue}
use Rattle.dns_message.specs.WellFormed.{WellFormed}
use Rattle.dns_message.proofs.Octets.{no_octets, octets_after, octets_in_prefix, octets_of_both, octets_up_to, number_octets_2, number_octets_4}
use Rattle.dns_message.proofs.Whole.{body_octets, owner_octets}
use Rattle.dns_normal.specs.Normal.{answers_header, answers_message}

name_octets : (labels : List (List ℕ)) (contents places : List ℕ) → AreOctets (wire labels) → AreOctets (compress contents places labels)
name_octets labels contents places are = by (longest_recorded contents places 0 labels) where
  by : (cut : Option (ℕ × ℕ)) → AreOctets (cut_at (wire labels) cut)
  by None = are
  by (Some (prefix, place)) = octets_of_both (take prefix (wire labels)) (to_be_bytes w16 (49152 + 12 + place)) (octets_up_to prefix (wire labels) are) (number_octets_2 (49152 + 12 + place))

part_octets : (field : Field) (contents places : List ℕ) → AreOctets (field_octets field) → AreOctets (part_writes (field_part field) contents places).0
part_octets (CompressibleName labels) contents places are = name_octets labels contents places are
part_octets (UncompressedName labels) contents places are = are
part_octets (CharacterString octets) contents places are = are
part_octets (CountedOctets octets) contents places are = are
part_octets (CharacterStrings octets) contents places are = are
part_octets (OtherOctets octets) contents places are = are
part_octets (Byte b) contents places are = are
part_octets (Number w n) contents places are = are

parts_octets : (fields : List Field) (contents places : List ℕ) → AreOctets (fields_octets fields) → AreOctets (laid (map field_part fields) contents places).0
unfolding list_writes
parts_octets [] contents places are = no_octets
parts_octets (field ∷ fields) contents places are =
    let first = part_writes (field_part field) contents places in
    octets_of_both first.0 (laid (map field_part fields) (contents ++ first.0) first.1).0
    (part_octets field contents places (octets_in_prefix (field_octets field) (fields_octets fields) are))
    (parts_octets fields (contents ++ first.0) first.1 (octets_after (field_octets field) (fields_octets fields) are))

built_octets : (r : RecordValue) (contents places : List ℕ) → WellFormed r → AreOctets (built r contents places).0
built_octets r contents places is =
    let owner = compressed_name_writes r.owner contents places in
    let numbers = fixed_header r.rtype r.class r.ttl in
    let at = ((contents ++ owner.0) ++ numbers) ++ zeros w16 in
    let content = (laid (map field_part r.content) at owner.1).0 in
    let size = to_be_bytes w16 (length content) in
    octets_of_both owner.0 (numbers ++ (size ++ content)) (name_octets r.owner contents places (owner_octets r is))
    (octets_of_both numbers (size ++ content)
    (octets_of_both (to_be_bytes w16 r.rtype) (to_be_bytes w16 r.class ++ to_be_bytes w32 r.ttl) (number_octets_2 r.rtype) (octets_of_both (to_be_bytes w16 r.class) (to_be_bytes w32 r.ttl) (number_octets_2 r.class) (number_octets_4 r.ttl)))
    (octets_of_both size content (number_octets_2 (length content)) (parts_octets r.content at owner.1 (body_octets r is))))

list_octets : (rs : List RecordValue) (contents places : List ℕ) → AllByRecursion WellFormed rs → AreOctets (list_writes built rs contents places).0
unfolding list_writes
list_octets [] contents places are = no_octets
list_octets (r ∷ rs) contents places are =
    let first = built r contents places in
    octets_of_both first.0 (list_writes built rs (contents ++ first.0) first.1).0 (built_octets r contents places are.0) (list_octets rs (contents ++ first.0) first.1 are.1)

zero_octets : AreOctets (0 ∷ 0 ∷ 0 ∷ 0 ∷ [])
zero_octets = octets_of_both (to_be_bytes w16 0) (to_be_bytes w16 0) (number_octets_2 0) (number_octets_2 0)

header_octets : (n : ℕ) → AreOctets (answers_header n)
header_octets n =
    octets_of_both (replicate 6 0) (to_be_bytes w16 n ++ replicate 4 0) (octets_of_both (0 ∷ 0 ∷ 0 ∷ 0 ∷ []) (to_be_bytes w16 0) zero_octets (number_octets_2 0))
    (octets_of_both (to_be_bytes w16 n) (replicate 4 0) (number_octets_2 n) zero_octets)

pub message_octets : (rs : List RecordValue) → AllByRecursion WellFormed rs → AreOctets (answers_message rs)
message_octets rs are = octets_of_both (answers_header (length rs)) (list_writes built rs [] []).0 (header_octets (length rs)) (list_octets rs [] [] are)
