-- The normal form is a valid message with the same records.
use Rattle.std.proofs.Common.{◌≡◌, ℕ, ◌+◌, ◌≤◌, List, [], ◌∷◌, ◌++◌, length, map, filter, refl, sym, ap, subst, ◌∙◌, append_assoc, append-nil, arith}
use Rattle.std.specs.List.{All, AllByRecursion}
use Rattle.std.proofs.lemmas.List.Elements.{recursion_from_All}
use Rattle.dns_wire.specs.Reading.{AreOctets}
use Rattle.dns_message.specs.Building.{Draft, pushed}
use Rattle.dns_message.specs.Built.{built}
use Rattle.dns_message.specs.Canonical.{lowercase_names, is_not_opt}
use Rattle.dns_message.specs.Messages.{RecordValue, Valid, message_reading, records_among}
use Rattle.dns_message.specs.Order.{canonical_list, collapsed}
use Rattle.dns_message.specs.Same.{Same, least}
use Rattle.dns_message.specs.WellFormed.{WellFormed}
use Rattle.dns_message.proofs.CanonicalListSameness.{canonical_list_from_same, same_lists}
use Rattle.dns_message.proofs.Collapsing.{all_left}
use Rattle.dns_message.proofs.OneReading.{valid_one}
use Rattle.dns_message.proofs.WellFormedLemmas.{all_well}
use Rattle.dns_message.proofs.Whole.{well_formed_lowercased}
use Rattle.dns_normal.specs.Answers.{HasAnswers}
use Rattle.dns_normal.specs.Normal.{answers_header, answers_message, normal_form}
use Rattle.dns_normal.proofs.AnswersLemmas.{message_grows, message_is, message_more, no_answers, one_more}
use Rattle.dns_normal.proofs.NormalOctets.{message_octets}
use Rattle.dns_normal.proofs.SameRecords.{same_back, same_least, same_lowercased, same_then}

-- ---- records that are built

-- more records are the answers, if they are few octets
built_after : (rs later : List RecordValue) (draft : Draft) → HasAnswers 65535 rs draft → AllByRecursion WellFormed later → length (answers_message (rs ++ later)) ≤ 65535 → (after : Draft) × HasAnswers 65535 (rs ++ later) after
built_after rs [] draft has are short = (draft, subst (λ (l : List RecordValue). HasAnswers 65535 l draft) (sym (append-nil rs)) has)
built_after rs (r ∷ later) draft has are short =
    let whole : (rs ++ r ∷ []) ++ later ≡ rs ++ r ∷ later = append_assoc rs (r ∷ []) later in
    let few : length (answers_message ((rs ++ r ∷ []) ++ later)) ≤ 65535 = subst (λ (l : List RecordValue). length (answers_message l) ≤ 65535) (sym whole) short in
    let room : 12 + length draft.contents + length (built r draft.contents draft.places).0 ≤ 65535 = omega (arith, few, message_grows (rs ++ r ∷ []) later, message_more rs r draft.contents draft.places has.octets) in
    let all = built_after (rs ++ r ∷ []) later (pushed 1 (built r) draft) (one_more 65535 rs r draft has are.0 room) are.1 few in
    (all.0, subst (λ (l : List RecordValue). HasAnswers 65535 l all.0) whole all.1)

-- a message of few octets that has records as answers is read as them
answers_read : (rs : List RecordValue) → AllByRecursion WellFormed rs → length (answers_message rs) ≤ 65535 → (ss : List RecordValue) × Valid (answers_message rs) ss × (map lowercase_names ss ≡ map lowercase_names rs)
answers_read rs are short =
    let empty : Draft = record { header = answers_header 0; contents = []; size = 65535; places = [] } in
    let all = built_after [] rs empty (no_answers 65535 empty 0 0 (omega arith) (omega arith) refl refl refl refl refl refl) are short in
    let has = all.1 in
    (records_among has.items, (has.items, length all.0.contents, ap message_reading (sym (message_is 65535 rs all.0 has)) ∙ has.read, refl), has.alike)

-- ---- the least records

all_lowercased : (rs : List RecordValue) → AllByRecursion WellFormed rs → AllByRecursion WellFormed (map lowercase_names rs)
all_lowercased [] are = tt
all_lowercased (r ∷ rs) are = (well_formed_lowercased r are.0, all_lowercased rs are.1)

-- the records that are left are well formed, and so they are when lowercased
pub left_well : (rs : List RecordValue) → All WellFormed rs → AllByRecursion WellFormed (collapsed (filter is_not_opt rs))
left_well rs are = recursion_from_All WellFormed (collapsed (filter is_not_opt rs)) (all_left WellFormed rs are)

least_well : (rs : List RecordValue) → All WellFormed rs → AllByRecursion WellFormed (least rs)
least_well rs are = all_lowercased (collapsed (filter is_not_opt rs)) (left_well rs are)

-- ---- the normal form

pub normal_octets : (rs : List RecordValue) → All WellFormed rs → AreOctets (normal_form rs)
normal_octets rs are = message_octets (least rs) (least_well rs are)

pub same_normal : (rs ss : List RecordValue) → All WellFormed rs → All WellFormed ss → Same rs ss → normal_form rs ≡ normal_form ss
same_normal rs ss are also same = ap answers_message ((same_lists rs ss are also).0 same)

pub normal_read : (rs : List RecordValue) → All WellFormed rs → length (normal_form rs) ≤ 65535
    → (ss : List RecordValue) × Valid (normal_form rs) ss × Same rs ss × (canonical_list ss ≡ canonical_list rs) × (normal_form ss ≡ normal_form rs)
normal_read rs are short =
    let found = answers_read (least rs) (least_well rs are) short in
    let ss = found.0 in
    let same : Same rs ss = same_then rs (least rs) ss (same_least rs are) (same_lowercased (least rs) ss (sym found.2)) in
    let also : All WellFormed ss = all_well (normal_form rs) ss (normal_octets rs are) found.1 in
    let back = same_back rs ss same in
    (ss, found.1, same, canonical_list_from_same ss rs back, same_normal ss rs also are back)

-- a normal form of few octets is that of no other records
pub other_normal : (rs ss : List RecordValue) → All WellFormed rs → All WellFormed ss → length (normal_form rs) ≤ 65535 → normal_form rs ≡ normal_form ss → Same rs ss
other_normal rs ss are also short e =
    let one = normal_read rs are short in
    let two = normal_read ss also (subst (λ (m : List ℕ). length m ≤ 65535) e short) in
    let records : one.0 ≡ two.0 = valid_one (normal_form ss) one.0 two.0 (subst (λ (m : List ℕ). Valid m one.0) e one.1) two.1 in
    same_then rs one.0 ss one.2 (subst (λ (l : List RecordValue). Same l ss) (sym records) (same_back ss two.0 two.2))
