-- Canonical octets one after another determine the records.
use Rattle.std.proofs.Common.{◌≡◌, ℕ, List, [], ◌∷◌, ◌++◌, length, map, filter, Some, refl, sym, ap, ◌∙◌, append_assoc, arith}
use Rattle.std.specs.Prelude.{◌↔◌}
use Rattle.std.specs.Int.{w16, w32, to_be_bytes}
use Rattle.std.specs.List.{All, AllByRecursion, concat}
use Rattle.std.proofs.lemmas.List.{length-append}
use Rattle.std.proofs.lemmas.List.Elements.{recursion_from_All}
use Rattle.std.proofs.lemmas.Option.{some_pair_parts}
use Rattle.dns_wire.specs.Names.{wire}
use Rattle.dns_wire.specs.Reading.{AreOctets}
use Rattle.dns_record.specs.Fields.{fields_octets}
use Rattle.dns_record.specs.Records.{octets_of_parts}
use Rattle.dns_message.specs.Canonical.{canonical_wire, is_not_opt, lowercase_names, plain_record, record_octets}
use Rattle.dns_message.specs.Messages.{RecordValue, Valid}
use Rattle.dns_message.specs.Order.{collapsed, canonical_list}
use Rattle.dns_message.specs.Same.{Same}
use Rattle.dns_message.specs.WellFormed.{WellFormed}
use Rattle.dns_message.proofs.CanonicalListSameness.{outputs}
use Rattle.dns_message.proofs.Collapsing.{all_left}
use Rattle.dns_message.proofs.WellFormedLemmas.{all_well}
use Rattle.dns_message.proofs.Whole.{inner_back, well_formed_lowercased}

-- the same octets, with what follows them inside
inner : (owner body rest : List ℕ) (rtype class ttl : ℕ)
    → octets_of_parts owner rtype class ttl body ++ rest ≡ owner ++ (to_be_bytes w16 rtype ++ (to_be_bytes w16 class ++ (to_be_bytes w32 ttl ++ (to_be_bytes w16 (length body) ++ (body ++ rest)))))
inner owner body rest rtype class ttl =
    let five = to_be_bytes w16 (length body) ++ body in
    let four = to_be_bytes w32 ttl ++ five in
    let three = to_be_bytes w16 class ++ four in
    let two = to_be_bytes w16 rtype ++ three in
    append_assoc owner two rest
    ∙ ap (λ (l : List ℕ). owner ++ l) (append_assoc (to_be_bytes w16 rtype) three rest
    ∙ ap (λ (l : List ℕ). to_be_bytes w16 rtype ++ l) (append_assoc (to_be_bytes w16 class) four rest
    ∙ ap (λ (l : List ℕ). to_be_bytes w16 class ++ l) (append_assoc (to_be_bytes w32 ttl) five rest
    ∙ ap (λ (l : List ℕ). to_be_bytes w32 ttl ++ l) (append_assoc (to_be_bytes w16 (length body)) body rest))))

before : (r : RecordValue) (rest : List ℕ) → WellFormed r → plain_record (record_octets r ++ rest) ≡ Some (r, rest)
before r rest is = ap plain_record (inner (wire r.owner) (fields_octets r.content) rest r.rtype r.class r.ttl) ∙ inner_back r rest is

-- the canonical octets of a record are some
two_octets : (n : ℕ) → length (to_be_bytes w16 n) ≡ 2
two_octets n = refl

some_parts : (owner rtype more : List ℕ) → length rtype ≡ 2 → owner ++ (rtype ++ more) ≡ [] → ⊥
some_parts owner rtype more two e = absurd (omega (arith, two, ap length e, length-append owner (rtype ++ more), length-append rtype more))

some_octets : (r : RecordValue) (rest : List ℕ) → record_octets r ++ rest ≡ [] → ⊥
some_octets r rest e =
    some_parts (wire r.owner) (to_be_bytes w16 r.rtype) _ (two_octets r.rtype)
    (sym (inner (wire r.owner) (fields_octets r.content) rest r.rtype r.class r.ttl) ∙ e)

streams_one : (rs ss : List RecordValue) → AllByRecursion WellFormed rs → AllByRecursion WellFormed ss → concat (map canonical_wire rs) ≡ concat (map canonical_wire ss) → map canonical_wire rs ≡ map canonical_wire ss
streams_one [] [] are also e = refl
streams_one [] (s ∷ ss) are also e = absurd (some_octets (lowercase_names s) (concat (map canonical_wire ss)) (sym e))
streams_one (r ∷ rs) [] are also e = absurd (some_octets (lowercase_names r) (concat (map canonical_wire rs)) e)
streams_one (r ∷ rs) (s ∷ ss) are also e =
    let left = concat (map canonical_wire rs) in
    let right = concat (map canonical_wire ss) in
    let parts = some_pair_parts (lowercase_names r) (lowercase_names s) left right
    (sym (before (lowercase_names r) left (well_formed_lowercased r are.0)) ∙ ap plain_record e ∙ before (lowercase_names s) right (well_formed_lowercased s also.0)) in
    let first : canonical_wire r ≡ canonical_wire s = ap record_octets parts.0 in
    let others = streams_one rs ss are.1 also.1 parts.1 in
    λ i. first i ∷ others i

pub stream_one : (rs ss : List RecordValue) → All WellFormed rs → All WellFormed ss → (concat (canonical_list rs) ≡ concat (canonical_list ss)) ↔ (canonical_list rs ≡ canonical_list ss)
stream_one rs ss are also = (
  streams_one (collapsed (filter is_not_opt rs)) (collapsed (filter is_not_opt ss))
      (recursion_from_All WellFormed (collapsed (filter is_not_opt rs)) (all_left WellFormed rs are))
      (recursion_from_All WellFormed (collapsed (filter is_not_opt ss)) (all_left WellFormed ss also)),
  λ e. ap concat e,
)

pub stream_same : (rs ss : List RecordValue) → All WellFormed rs → All WellFormed ss → (concat (canonical_list rs) ≡ concat (canonical_list ss)) ↔ Same rs ss
stream_same rs ss are also =
    let stream = stream_one rs ss are also in
    let list = outputs rs ss are also in
    (λ e. list.0 (stream.0 e), λ same. stream.1 (list.1 same))

pub message_streams : (m n : List ℕ) (rs ss : List RecordValue) → AreOctets m → AreOctets n → Valid m rs → Valid n ss → (concat (canonical_list rs) ≡ concat (canonical_list ss)) ↔ Same rs ss
message_streams m n rs ss are also valid other = stream_same rs ss (all_well m rs are valid) (all_well n ss also other)
