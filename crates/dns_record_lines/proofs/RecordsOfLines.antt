-- The records that have lines.
use Rattle.std.proofs.Common.{◌≡◌, ◌≢◌, ℕ, ◌<◌, ◌==◌, true, List, [], ◌∷◌, ◌++◌, length, map, sym, ap, subst, ◌∙◌, inl, inr, arith}
use Rattle.std.specs.Prelude.{◌↔◌, not, reverse}
use Rattle.std.specs.Cmp.{tied_itself}
use Rattle.std.specs.Cmp.Lexicographic.{slice_cmp}
use Rattle.std.specs.List.{AllByRecursion}
use Rattle.std.specs.Ordering.{nat_cmp}
use Rattle.std.proofs.lemmas.Bool.{cases_lt, eq-eqb}
use Rattle.std.proofs.lemmas.Cmp.{nat_list_cmp_total}
use Rattle.std.proofs.lemmas.List.{reverse-reverse}
use Rattle.std.proofs.lemmas.List.Concat.{flat_map-cons}
use Rattle.std.proofs.lemmas.Str.Ascii.{lowercase_is}
use Rattle.dns_wire.specs.Names.{IsName, labels_wire, lowered, wire}
use Rattle.dns_wire.specs.Reading.{AreOctets}
use Rattle.dns_wire.proofs.Backward.{lowered-reverse, reverse-cons}
use Rattle.dns_wire.proofs.Lowered.{name_lowered}
use Rattle.dns_record.specs.Types.{opt_number}
use Rattle.dns_record.proofs.Sizes.{canonical_long}
use Rattle.dns_message.specs.Canonical.{canonical_wire, is_not_opt}
use Rattle.dns_message.specs.Messages.{RecordValue}
use Rattle.dns_message.specs.Order.{SortKey, record_cmp, sort_key}
use Rattle.dns_message.specs.OwnerKeys.{key_octet, labels_key, owner_key}
use Rattle.dns_message.specs.WellFormed.{WellFormed}
use Rattle.dns_message.proofs.FormLemmas.{owner_key_lowered}
use Rattle.dns_message.proofs.Octets.{no_octets, octets_after, octets_in_prefix, octets_of_both, one_more}
use Rattle.dns_message.proofs.Ordering.{ties}
use Rattle.dns_message.proofs.OwnerKeyLemmas.{high, low}
use Rattle.dns_message.proofs.SortedRecords.{sort_key_cmp_same}
use Rattle.dns_message.proofs.Whole.{body_octets, lowered_twice, owner_octets, well_formed_lowercased}
use Rattle.dns_record_lines.specs.RecordLines.{IsLineOf, IsRecord, record_line}
use Rattle.dns_record_lines.proofs.RecordOrder.{lines_order}

-- ---- the key of an owner is octets

key_octet_fits : (x : ℕ) → x < 256 → key_octet x < 256
key_octet_fits x fits = elim (cases_lt x 65) [
  | inl few ↦ omega (arith, few, low x few)
  | inr many ↦ elim (cases_lt 90 x) [
    | inl past ↦ omega (arith, fits, high x many, (lowercase_is x).2 past)
    | inr letter ↦ omega (arith, many, letter, high x many, (lowercase_is x).0 (many, letter))
  ]
]

label_octets : (label : List ℕ) → AreOctets label → AreOctets (map key_octet label)
label_octets [] are = no_octets
label_octets (x ∷ label) are = one_more (key_octet x) (map key_octet label) (key_octet_fits x (are 0)) (label_octets label (octets_after (x ∷ []) label are))

labels_octets : (labels : List (List ℕ)) → AllByRecursion AreOctets labels → AreOctets (labels_key labels)
labels_octets [] are = no_octets
labels_octets (label ∷ labels) are =
    subst AreOctets (sym (flat_map-cons (λ (l : List ℕ). 0 ∷ map key_octet l) label labels))
    (one_more 0 (map key_octet label ++ labels_key labels) (omega arith) (octets_of_both (map key_octet label) (labels_key labels) (label_octets label are.0) (labels_octets labels are.1)))

each_label : (labels : List (List ℕ)) → AreOctets (labels_wire labels) → AllByRecursion AreOctets labels
each_label [] are = tt
each_label (label ∷ labels) are =
    let body = octets_after (length label ∷ []) (label ++ labels_wire labels) are in
    (octets_in_prefix label (labels_wire labels) body, each_label labels (octets_after label (labels_wire labels) body))

each_after : (xs ys : List (List ℕ)) → AllByRecursion AreOctets xs → AllByRecursion AreOctets ys → AllByRecursion AreOctets (xs ++ ys)
each_after [] ys are also = also
each_after (x ∷ xs) ys are also = (are.0, each_after xs ys are.1 also)

each_reversed : (labels : List (List ℕ)) → AllByRecursion AreOctets labels → AllByRecursion AreOctets (reverse labels)
each_reversed [] are = tt
each_reversed (label ∷ labels) are =
    subst (λ (l : List (List ℕ)). AllByRecursion AreOctets l) (sym (reverse-cons label labels)) (each_after (reverse labels) (label ∷ []) (each_reversed labels are.1) (are.0, tt))

key_octets : (labels : List (List ℕ)) → AreOctets (wire labels) → AreOctets (owner_key labels)
key_octets labels are =
    one_more 0 (labels_key (reverse labels)) (omega arith) (labels_octets (reverse labels) (each_reversed labels (each_label labels (octets_in_prefix (labels_wire labels) (0 ∷ []) are))))

-- ---- well formed records

not_opt_number : (rtype : ℕ) → not (rtype == opt_number) ≡ true → rtype ≢ opt_number
not_opt_number rtype e is = let clash = sym e ∙ ap not (eq-eqb rtype opt_number is) in absurd cc

pub is_record : (r : RecordValue) → WellFormed r → is_not_opt r ≡ true → IsRecord (sort_key r)
is_record r well other = record {
  owner = subst IsName (sym (reverse-reverse (lowered r.owner))) (name_lowered r.owner well.owner);
  lowercase = lowered-reverse (lowered r.owner) ∙ ap reverse (lowered_twice r.owner);
  key = subst AreOctets (owner_key_lowered r) (key_octets r.owner (owner_octets r well));
  class = well.class;
  rtype = well.rtype;
  not_opt = not_opt_number r.rtype other;
  size = omega (arith, canonical_long r.rtype r.content, well.size);
  octets = body_octets _ (well_formed_lowercased r well);
  ttl = well.ttl;
}

-- ---- the laws

pub records_order : (r s : RecordValue) → WellFormed r → WellFormed s → is_not_opt r ≡ true → is_not_opt s ≡ true → slice_cmp nat_cmp (record_line (sort_key r)) (record_line (sort_key s)) ≡ record_cmp r s
records_order r s well also other others = lines_order (sort_key r) (sort_key s) (is_record r well other) (is_record s also others)

pub same_line : (j k : SortKey) → IsRecord j → IsRecord k → record_line j ≡ record_line k → j ≡ k
same_line j k is are e =
    sort_key_cmp_same j k (sym (lines_order j k is are) ∙ ap (λ (l : List ℕ). slice_cmp nat_cmp l (record_line k)) e ∙ tied_itself nat_list_cmp_total (record_line k))

pub one_record : (line : List ℕ) (j k : SortKey) → IsLineOf line j → IsLineOf line k → j ≡ k
one_record line j k is are = same_line j k is.0 are.0 (sym is.1 ∙ are.1)

pub equal_records : (r s : RecordValue) → WellFormed r → WellFormed s → is_not_opt r ≡ true → is_not_opt s ≡ true → (record_line (sort_key r) ≡ record_line (sort_key s)) ↔ (canonical_wire r ≡ canonical_wire s)
equal_records r s well also other others = (
  λ e. (ties r s well also).0 (sym (records_order r s well also other others) ∙ ap (λ (l : List ℕ). slice_cmp nat_cmp l (record_line (sort_key s))) e ∙ tied_itself nat_list_cmp_total (record_line (sort_key s))),
  λ e. ap record_line (sort_key_cmp_same (sort_key r) (sort_key s) ((ties r s well also).1 e)),
)
