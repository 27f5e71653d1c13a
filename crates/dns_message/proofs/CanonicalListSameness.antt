-- Canonical lists are equal if the records are the same.
use Rattle.std.proofs.Common.{◌≡◌, ℕ, true, false, cond, List, [], ◌∷◌, map, filter, Option, Some, None, refl, sym, ap, subst, ◌∙◌}
use Rattle.std.specs.Prelude.{◌↔◌, Contains, reverse}
use Rattle.std.specs.List.{All, AllByRecursion, dedup}
use Rattle.std.specs.List.Sorted.{IsPermutation}
use Rattle.std.specs.Ordering.{eq_by_cmp}
use Rattle.std.proofs.lemmas.List.Elements.{recursion_from_All}
use Rattle.dns_record.specs.Fields.{fields_octets}
use Rattle.dns_wire.specs.Reading.{AreOctets}
use Rattle.dns_message.specs.Canonical.{canonical_wire, lowercase_names, is_not_opt, plain_record}
use Rattle.dns_message.specs.Messages.{RecordValue, Valid}
use Rattle.dns_message.specs.Order.{SortKey, sort_key, alike_cmp, in_order, collapsed, canonical_list}
use Rattle.dns_message.specs.Same.{Same, least}
use Rattle.dns_message.specs.Sorted.{Climbs}
use Rattle.dns_message.specs.WellFormed.{WellFormed}
use Rattle.dns_message.proofs.Collapsing.{IsLeastKey, all_left, keys_climb, keys_collapsed, least_keys, least_members, octets_alike}
use Rattle.dns_message.proofs.Ordering.{keys_one}
use Rattle.dns_message.proofs.FirstOfRuns.{one_list}
use Rattle.dns_message.proofs.SortedRecords.{alike_total, keys_in_order}
use Rattle.dns_message.proofs.WellFormedLemmas.{all_well}
use Rattle.dns_message.proofs.Whole.{lowered_twice, canonical_twice, canonical_wire_back, canonical_wire_twice}

-- ---- from octets to lowercased records

-- the record of some octets, if they are one
abbrev first_of : RecordValue → Option (RecordValue × List ℕ) → RecordValue
first_of otherwise None = otherwise
first_of otherwise (Some (r, rest)) = r

nothing : RecordValue
nothing = record { owner = []; rtype = 0; class = 0; ttl = 0; content = [] }

read : List ℕ → RecordValue
read octets = first_of nothing (plain_record octets)

first_back : (r : RecordValue) → WellFormed r → read (canonical_wire r) ≡ lowercase_names r
unfolding read
first_back r is = ap (first_of nothing) (canonical_wire_back r is)

all_back : (rs : List RecordValue) → AllByRecursion WellFormed rs → map read (map canonical_wire rs) ≡ map lowercase_names rs
all_back [] are = refl
all_back (r ∷ rs) are =
    let back : read (canonical_wire r) ≡ lowercase_names r = first_back r are.0 in
    let later : map read (map canonical_wire rs) ≡ map lowercase_names rs = all_back rs are.1 in
    λ i. back i ∷ later i

-- canonical lists are read back as the records that they have
least_read : (rs : List RecordValue) → All WellFormed rs → map read (canonical_list rs) ≡ least rs
least_read rs are = all_back (collapsed (filter is_not_opt rs)) (recursion_from_All WellFormed (collapsed (filter is_not_opt rs)) (all_left WellFormed rs are))

least_from_canonical_list : (rs ss : List RecordValue) → All WellFormed rs → All WellFormed ss → canonical_list rs ≡ canonical_list ss → least rs ≡ least ss
least_from_canonical_list rs ss are also e = sym (least_read rs are) ∙ ap (map read) e ∙ least_read ss also

same_from_least : (rs ss : List RecordValue) → All WellFormed rs → All WellFormed ss → least rs ≡ least ss → Same rs ss
same_from_least rs ss are also e = λ x. (
  λ h. (least_members ss also x).0 (subst (λ (l : List RecordValue). Contains l x) e ((least_members rs are x).1 h)),
  λ h. (least_members rs are x).0 (subst (λ (l : List RecordValue). Contains l x) (sym e) ((least_members ss also x).1 h)),
)

-- ---- from lowercased records to octets

-- lowercased records are compared as they were
key_lowercased : (r : RecordValue) → sort_key (lowercase_names r) ≡ sort_key r
key_lowercased r = λ i. record { owner = reverse (lowered_twice r.owner i); class = r.class; rtype = r.rtype; octets = fields_octets (canonical_twice r.rtype r.content i); ttl = r.ttl }

keys_lowercased : (rs : List RecordValue) → map sort_key (map lowercase_names rs) ≡ map sort_key rs
keys_lowercased [] = refl
keys_lowercased (r ∷ rs) = λ i. key_lowercased r i ∷ keys_lowercased rs i

-- what is compared of the records of one list that have the least times to live is so of the other's
least_key_of : (rs ss : List RecordValue) → Same rs ss → (k : SortKey) → IsLeastKey rs k → IsLeastKey ss k
least_key_of rs ss same k h =
    let other = (same (lowercase_names h.found)).0 (record { found = h.found; occurs = h.occurs; not_opt = h.not_opt; lowercased = refl; least = h.least }) in
    record {
      found = other.found;
      occurs = other.occurs;
      not_opt = other.not_opt;
      compared = sym (key_lowercased other.found) ∙ ap sort_key other.lowercased ∙ key_lowercased h.found ∙ h.compared;
      least = other.least;
    }

-- records that are the same are compared by the same, one by one
pub keys_from_same : (rs ss : List RecordValue) → Same rs ss → map sort_key (collapsed (filter is_not_opt rs)) ≡ map sort_key (collapsed (filter is_not_opt ss))
keys_from_same rs ss same =
    let one = map sort_key (collapsed (filter is_not_opt rs)) in
    let two = map sort_key (collapsed (filter is_not_opt ss)) in
    one_list alike_cmp alike_total one two (keys_climb (filter is_not_opt rs)) (keys_climb (filter is_not_opt ss)) (λ k. (
      λ m. (least_keys ss k).1 (least_key_of rs ss same k ((least_keys rs k).0 m)),
      λ m. (least_keys rs k).1 (least_key_of ss rs (λ x. ((same x).1, (same x).0)) k ((least_keys ss k).0 m)),
    ))

pub canonical_list_from_same : (rs ss : List RecordValue) → Same rs ss → canonical_list rs ≡ canonical_list ss
canonical_list_from_same rs ss same = octets_alike (collapsed (filter is_not_opt rs)) (collapsed (filter is_not_opt ss)) (keys_from_same rs ss same)

-- ---- from lowercased records, in this order

-- a lowercased record has the type that it had, so it is kept if the record is
not_opt_lowercased : (rs : List RecordValue) → filter is_not_opt (map lowercase_names rs) ≡ map lowercase_names (filter is_not_opt rs)
not_opt_lowercased [] = refl
not_opt_lowercased (r ∷ rs) =
    let not_opt = filter is_not_opt rs in
    elim (is_not_opt r) as (λ b. cond b (lowercase_names r ∷ filter is_not_opt (map lowercase_names rs)) (filter is_not_opt (map lowercase_names rs)) ≡ map lowercase_names (cond b (r ∷ not_opt) not_opt)) [
      | true ↦ ap (λ (l : List RecordValue). lowercase_names r ∷ l) (not_opt_lowercased rs)
      | false ↦ not_opt_lowercased rs
    ]

-- lists whose records are compared by the same have one canonical list
canonical_list_of_keys : (rs ss : List RecordValue) → map sort_key (in_order (filter is_not_opt rs)) ≡ map sort_key (in_order (filter is_not_opt ss)) → canonical_list rs ≡ canonical_list ss
canonical_list_of_keys rs ss e =
    octets_alike (collapsed (filter is_not_opt rs)) (collapsed (filter is_not_opt ss))
    (keys_collapsed (filter is_not_opt rs) ∙ ap (dedup (eq_by_cmp alike_cmp)) e ∙ sym (keys_collapsed (filter is_not_opt ss)))

pub canonical_list_one : (rs ss : List RecordValue) → IsPermutation rs ss → canonical_list rs ≡ canonical_list ss
canonical_list_one rs ss moved = canonical_list_of_keys rs ss (keys_one rs ss moved)

-- records that are the same when lowercased, in the same order, have one canonical list
pub canonical_list_of_lowercased : (rs ss : List RecordValue) → map lowercase_names rs ≡ map lowercase_names ss → canonical_list rs ≡ canonical_list ss
canonical_list_of_lowercased rs ss e =
    let lowercases : map lowercase_names (filter is_not_opt rs) ≡ map lowercase_names (filter is_not_opt ss) = sym (not_opt_lowercased rs) ∙ ap (filter is_not_opt) e ∙ not_opt_lowercased ss in
    canonical_list_of_keys rs ss (keys_in_order (filter is_not_opt rs) (filter is_not_opt ss) (sym (keys_lowercased (filter is_not_opt rs)) ∙ ap (map sort_key) lowercases ∙ keys_lowercased (filter is_not_opt ss)))

-- ---- lists and records

lowercased_octets : (rs : List RecordValue) → map canonical_wire (map lowercase_names rs) ≡ map canonical_wire rs
lowercased_octets [] = refl
lowercased_octets (r ∷ rs) = λ i. canonical_wire_twice r i ∷ lowercased_octets rs i

-- the canonical list has the canonical octets of the records with the least times to live
pub canonical_list_least : (rs : List RecordValue) → canonical_list rs ≡ map canonical_wire (least rs)
canonical_list_least rs = sym (lowercased_octets (collapsed (filter is_not_opt rs)))

-- and these come in order, each before every later one by more than its time to live
pub least_climb : (rs : List RecordValue) → Climbs alike_cmp (map sort_key (least rs))
least_climb rs = subst (Climbs alike_cmp) (sym (keys_lowercased (collapsed (filter is_not_opt rs)))) (keys_climb (filter is_not_opt rs))

pub same_lists : (rs ss : List RecordValue) → All WellFormed rs → All WellFormed ss → Same rs ss ↔ (least rs ≡ least ss)
same_lists rs ss are also = (λ same. least_from_canonical_list rs ss are also (canonical_list_from_same rs ss same), same_from_least rs ss are also)

pub outputs : (rs ss : List RecordValue) → All WellFormed rs → All WellFormed ss → (canonical_list rs ≡ canonical_list ss) ↔ Same rs ss
outputs rs ss are also = (λ e. same_from_least rs ss are also (least_from_canonical_list rs ss are also e), canonical_list_from_same rs ss)

pub message_outputs : (m n : List ℕ) (rs ss : List RecordValue) → AreOctets m → AreOctets n → Valid m rs → Valid n ss → (canonical_list rs ≡ canonical_list ss) ↔ Same rs ss
message_outputs m n rs ss are also valid other = outputs rs ss (all_well m rs are valid) (all_well n ss also other)
