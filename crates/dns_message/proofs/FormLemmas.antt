-- Canonical forms of records, one after another.
use Rattle.std.proofs.Common.{◌≡◌, ℕ, zero, suc, ◌+◌, ◌<◌, ◌≤◌, ◌^◌, List, [], ◌∷◌, ◌++◌, Option, Some, None, length, map, take, drop, take_all, flat_map, get_or, append-nil, refl, sym, ap, ap₂, subst, ◌∙◌, arith}
use Rattle.std.specs.Prelude.{reverse, slice_get, unwrap_or}
use Rattle.std.specs.Cmp.Lexicographic.{slice_cmp}
use Rattle.std.specs.Int.{w16, w32, to_be_bytes}
use Rattle.std.specs.List.Sorted.{IsPermutation, IsSorted}
use Rattle.std.specs.Ordering.{is_lt, nat_cmp}
use Rattle.std.specs.Str.{str_to_ascii_lowercase}
use Rattle.std.proofs.lemmas.Grind.{flat_map-append}
use Rattle.std.proofs.lemmas.List.{get_or_default, get_or-map, length-append, length-drop, length-map, take_more, take-append-le, drop-append-le, drop-drop, map-append, map-id, reverse-reverse, take_at}
use Rattle.std.proofs.lemmas.List.Concat.{flat_map-cons}
use Rattle.std.proofs.lemmas.List.Elements.{All-push}
use Rattle.std.proofs.lemmas.List.Sorted.{ranks_by, sorted_far}
use Rattle.dns_wire.specs.Names.{lowered, name_labels, plain_name, wire, IsName}
use Rattle.dns_wire.specs.Reading.{all_of}
use Rattle.dns_wire.proofs.Backward.{lowered-reverse}
use Rattle.dns_wire.proofs.Lowered.{name_lowered}
use Rattle.dns_wire.proofs.Spelled.{labels_of_wire, plain_name_again, plain_name_takes}
use Rattle.dns_name.specs.Order.{key, key_cmp, key_of}
use Rattle.dns_message.specs.Canonical.{canonical_wire}
use Rattle.dns_message.specs.Forms.{form_owner_key, form_of_parts, form_in, IsForm, span_of, forms_in, AreForms}
use Rattle.dns_message.specs.Messages.{RecordValue}
use Rattle.dns_message.specs.Order.{SortKey, sort_key, sort_key_cmp, octets_of_key, in_order}
use Rattle.dns_message.specs.OwnerKeys.{key_octet, labels_key, owner_key}
use Rattle.dns_message.specs.Sorted.{Ascends, times}
use Rattle.dns_message.specs.declared.form_span.FormSpan.{FormSpan}
use Rattle.dns_message.proofs.Ordering.{key_canonical_wire}
use Rattle.dns_message.proofs.OwnerKeyLemmas.{first_key, keys_ordered, octet_lowered, owner_size}
use Rattle.dns_message.proofs.SortedRecords.{SameSums, ascends_from_far, ascends_in_order, in_order_sums, sort_key_cmp_same, sort_key_cmp_total, sorted_unique, sums_permuted}
use Rattle.dns_message.proofs.Whole.{lowered_twice}

-- ---- the key of an owner is that of the owner in lowercase

label_lowered : (label : List ℕ) → map key_octet (str_to_ascii_lowercase label) ≡ map key_octet label
label_lowered [] = refl
label_lowered (x ∷ label) = ap₂ (λ (o : ℕ) (l : List ℕ). o ∷ l) (octet_lowered x) (label_lowered label)

labels_lowered : (labels : List (List ℕ)) → labels_key (lowered labels) ≡ labels_key labels
labels_lowered [] = refl
labels_lowered (label ∷ labels) = ap₂ (λ (x y : List ℕ). (0 ∷ x) ++ y) (label_lowered label) (labels_lowered labels)

pub key_of_lowered : (labels : List (List ℕ)) → owner_key (lowered labels) ≡ owner_key labels
key_of_lowered labels = ap (λ (l : List ℕ). 0 ∷ l) (ap labels_key (sym (lowered-reverse labels)) ∙ labels_lowered (reverse labels))

pub owner_key_lowered : (r : RecordValue) → owner_key r.owner ≡ form_owner_key (sort_key r)
owner_key_lowered r = sym (ap (λ (l : List ℕ). 0 ∷ l) (ap labels_key (sym (lowered-reverse r.owner)) ∙ labels_lowered (reverse r.owner)))

-- ---- the form of a record

pub form_back : (r : RecordValue) → IsName r.owner → form_in (canonical_wire r) r.class r.rtype r.ttl ≡ sort_key r
form_back r is = ap (λ (o : Option (List (List ℕ) × List ℕ)). form_of_parts r.class r.rtype r.ttl (unwrap_or o ([], [])))
    (plain_name_again (canonical_wire r) (lowered r.owner) _ (name_lowered r.owner is) refl)

pub is_form : (r : RecordValue) → IsName r.owner → length (canonical_wire r) ≤ 65800 → length (sort_key r).octets < 2 ^ 16 → IsForm (sort_key r)
is_form r is short few = (
  lowered-reverse (lowered r.owner) ∙ ap reverse (lowered_twice r.owner),
  omega (arith, ap length (key_canonical_wire r), short),
  ap (λ (l : List ℕ). form_in l r.class r.rtype r.ttl) (key_canonical_wire r) ∙ form_back r is,
  few,
)

-- ---- one after another

-- how many canonical octets the spans take
abbrev spans_size : List FormSpan → ℕ
spans_size [] = 0
spans_size (s ∷ spans) = s.size + spans_size spans

forms_append : (spans more : List FormSpan) (octets others : List ℕ) → length octets ≡ spans_size spans → forms_in (spans ++ more) (octets ++ others) ≡ forms_in spans octets ++ forms_in more others
unfolding forms_in
forms_append [] more [] others long = refl
forms_append [] more (x ∷ octets) others long = absurd (omega (arith, long))
forms_append (s ∷ spans) more octets others long =
    let all : spans_size (s ∷ spans) ≡ s.size + spans_size spans = refl in
    let rest : length (drop s.size octets) ≡ spans_size spans = omega (arith, long, all, length-drop s.size octets) in
    let within : s.size ≤ length octets = omega (arith, long, all) in
    ap₂ (λ (x y : List ℕ). form_in x s.class s.rtype s.ttl ∷ forms_in (spans ++ more) y) (take-append-le s.size octets others within) (drop-append-le s.size octets others within)
    ∙ ap (λ (l : List SortKey). form_in (take s.size octets) s.class s.rtype s.ttl ∷ l) (forms_append spans more (drop s.size octets) others rest)

one_form : (k : SortKey) → IsForm k → forms_in (span_of k ∷ []) (octets_of_key k) ≡ k ∷ []
unfolding forms_in
one_form k is = ap (λ (l : List ℕ). form_in l k.class k.rtype k.ttl ∷ []) (take_all (length (octets_of_key k)) (octets_of_key k) (omega arith)) ∙ ap (λ (j : SortKey). j ∷ []) is.2

all_octets : (ks : List SortKey) → length (flat_map octets_of_key ks) ≡ spans_size (map span_of ks)
all_octets [] = refl
all_octets (k ∷ ks) = ap length (flat_map-cons octets_of_key k ks) ∙ length-append (octets_of_key k) (flat_map octets_of_key ks) ∙ ap (λ (n : ℕ). length (octets_of_key k) + n) (all_octets ks)

-- no forms
pub none_are_forms : AreForms (forms_in [] []) [] [] []
unfolding forms_in
none_are_forms = (refl, refl, refl, λ k d lt. absurd (omega (arith, lt)))

pub no_forms : forms_in [] [] ≡ []
unfolding forms_in
no_forms = refl

-- one more form
module _ (keys octets : List ℕ) (spans : List FormSpan) (k : SortKey) (so : AreForms (forms_in spans octets) keys octets spans) (is : IsForm k) where
  pub more_forms : forms_in (spans ++ span_of k ∷ []) (octets ++ octets_of_key k) ≡ forms_in spans octets ++ k ∷ []
  more_forms =
      forms_append spans (span_of k ∷ []) octets (octets_of_key k) (ap length so.1 ∙ all_octets (forms_in spans octets) ∙ ap spans_size (sym so.2))
      ∙ ap (λ (l : List SortKey). forms_in spans octets ++ l) (one_form k is)

  pub more_are_forms : AreForms (forms_in (spans ++ span_of k ∷ []) (octets ++ octets_of_key k)) (keys ++ form_owner_key k) (octets ++ octets_of_key k) (spans ++ span_of k ∷ [])
  more_are_forms =
      let ks = forms_in spans octets in
      subst (λ (l : List SortKey). AreForms l (keys ++ form_owner_key k) (octets ++ octets_of_key k) (spans ++ span_of k ∷ [])) (sym more_forms) (
        ap₂ (λ (x y : List ℕ). x ++ y) so.0 (sym (append-nil (form_owner_key k))) ∙ sym (flat_map-append form_owner_key ks (k ∷ [])),
        ap₂ (λ (x y : List ℕ). x ++ y) so.1 (sym (append-nil (octets_of_key k))) ∙ sym (flat_map-append octets_of_key ks (k ∷ [])),
        ap (λ (l : List FormSpan). l ++ span_of k ∷ []) so.2 ∙ sym (map-append span_of ks (k ∷ [])),
        All-push IsForm ks k so.3 is,
      )

-- what was put after others for a form
pub form_put : (k : SortKey) (keys octets : List ℕ) (spans : List FormSpan) (more_keys more_octets : List ℕ) (more_spans : List FormSpan) → AreForms (forms_in spans octets) keys octets spans → IsForm k
    → more_keys ≡ keys ++ form_owner_key k → more_octets ≡ octets ++ octets_of_key k → more_spans ≡ spans ++ span_of k ∷ []
    → (forms_in more_spans more_octets ≡ forms_in spans octets ++ k ∷ []) × AreForms (forms_in more_spans more_octets) more_keys more_octets more_spans
form_put k keys octets spans more_keys more_octets more_spans so is keys-is octets-is spans-is = (
  (λ i. forms_in (spans-is i) (octets-is i)) ∙ more_forms keys octets spans k so is,
  rw (keys-is, octets-is, spans-is) (more_are_forms keys octets spans k so is),
)

-- what was put after others for a record
pub record_put : (r : RecordValue) (keys octets : List ℕ) (spans : List FormSpan) (more_keys more_octets : List ℕ) (more_spans : List FormSpan) (s : FormSpan)
    → AreForms (forms_in spans octets) keys octets spans → IsName r.owner → length (canonical_wire r) ≤ 65800 → length (sort_key r).octets < 2 ^ 16
    → more_keys ≡ keys ++ owner_key r.owner → more_octets ≡ octets ++ canonical_wire r → more_spans ≡ spans ++ s ∷ []
    → s.owner_size ≡ length (wire r.owner) → s.size ≡ length (canonical_wire r) → s.class ≡ r.class → s.rtype ≡ r.rtype → s.ttl ≡ r.ttl
    → (forms_in more_spans more_octets ≡ forms_in spans octets ++ sort_key r ∷ []) × AreForms (forms_in more_spans more_octets) more_keys more_octets more_spans
record_put r keys octets spans more_keys more_octets more_spans s so name short few keys-are octets-are spans-are owner_size-is size-is class-is rtype-is ttl-is =
    let k = sort_key r in
    let key-long : s.owner_size ≡ length (form_owner_key k) = owner_size-is ∙ sym (owner_size r.owner) ∙ ap length (owner_key_lowered r) in
    let long : s.size ≡ length (octets_of_key k) = size-is ∙ ap length (sym (key_canonical_wire r)) in
    let span : s ≡ span_of k = λ i. record { owner_size = key-long i; size = long i; class = class-is i; rtype = rtype-is i; ttl = ttl-is i } in
    let keys-is : more_keys ≡ keys ++ form_owner_key k = keys-are ∙ ap (λ (l : List ℕ). keys ++ l) (owner_key_lowered r) in
    let octets-is : more_octets ≡ octets ++ octets_of_key k = octets-are ∙ ap (λ (l : List ℕ). octets ++ l) (sym (key_canonical_wire r)) in
    let spans-is : more_spans ≡ spans ++ span_of k ∷ [] = spans-are ∙ ap (λ (x : FormSpan). spans ++ x ∷ []) span in
    form_put k keys octets spans more_keys more_octets more_spans so (is_form r name short few) keys-is octets-is spans-is

-- ---- the forms that are left

past_all : (xs ys : List ℕ) → drop (length xs) (xs ++ ys) ≡ ys
past_all [] ys = refl
past_all (x ∷ xs) ys = past_all xs ys

after_first : {R : Type 0} (f : R → List ℕ) (records : List R) (i : ℕ) (r : R) → i < length records → r ≡ get_or records i r
    → drop (length (f r)) (flat_map f (drop i records)) ≡ flat_map f (drop (suc i) records)
after_first f [] i r past is = absurd (omega (arith, past))
after_first f (x ∷ records) zero r within is = ap (λ y. drop (length (f y)) (flat_map f (x ∷ records))) is ∙ ap (drop (length (f x))) (flat_map-cons f x records) ∙ past_all (f x) (flat_map f records)
after_first f (x ∷ records) (suc i) r within is = after_first f records i r (omega (arith, within)) is

-- the form at a place: its key and its octets are the first of those that are left
pub record NextForm (ks : List SortKey) (i : ℕ) (s : FormSpan) (keys_left octets_left : List ℕ) : Type 0 where
  pub k : SortKey
  pub within : i < length ks
  pub more : take (i + 1) ks ≡ take i ks ++ k ∷ []
  pub span : s ≡ span_of k
  pub form : IsForm k
  pub key_room : s.owner_size ≤ length keys_left
  pub key : take s.owner_size keys_left ≡ form_owner_key k
  pub keys_after : drop s.owner_size keys_left ≡ flat_map form_owner_key (drop (i + 1) ks)
  pub room : s.size ≤ length octets_left
  pub octets : take s.size octets_left ≡ octets_of_key k
  pub octets_after : drop s.size octets_left ≡ flat_map octets_of_key (drop (i + 1) ks)

pub next_form : (ks : List SortKey) (keys octets : List ℕ) (spans : List FormSpan) (i : ℕ) (d : FormSpan) (keys_left octets_left : List ℕ) → AreForms ks keys octets spans → i < length spans
    → keys_left ≡ flat_map form_owner_key (drop i ks) → octets_left ≡ flat_map octets_of_key (drop i ks) → NextForm ks i (get_or spans i d) keys_left octets_left
next_form ks keys octets spans i d keys_left octets_left so within keys-are octets-are =
    let e : SortKey = form_in [] 0 0 0 in
    let k : SortKey = get_or ks i e in
    let inside : i < length ks = omega (arith, within, ap length so.2, length-map ks span_of) in
    let itself : k ≡ get_or ks i k = get_or_default ks i e k inside in
    let span : get_or spans i d ≡ span_of k = ap (λ (l : List FormSpan). get_or l i d) so.2 ∙ get_or-map span_of ks i e d inside in
    let size : (get_or spans i d).size ≡ length (octets_of_key k) = ap (λ (s : FormSpan). s.size) span in
    let owner_size : (get_or spans i d).owner_size ≡ length (form_owner_key k) = ap (λ (s : FormSpan). s.owner_size) span in
    let key = first_key form_owner_key ks i k keys_left _ inside itself keys-are owner_size in
    let form = first_key octets_of_key ks i k octets_left _ inside itself octets-are size in
    let next : suc i ≡ i + 1 = omega arith in
    record {
      k = k;
      within = inside;
      more = take_more ks i e inside;
      span = span;
      form = so.3 i e inside;
      key_room = key.0;
      key = key.1;
      keys_after = (λ j. drop (owner_size j) (keys-are j)) ∙ after_first form_owner_key ks i k inside itself ∙ ap (λ (n : ℕ). flat_map form_owner_key (drop n ks)) next;
      room = form.0;
      octets = form.1;
      octets_after = (λ j. drop (size j) (octets-are j)) ∙ after_first octets_of_key ks i k inside itself ∙ ap (λ (n : ℕ). flat_map octets_of_key (drop n ks)) next;
    }

-- what is at the front of a list
pub front_of : (ks : List SortKey) (k : SortKey) → take (0 + 1) ks ≡ take 0 ks ++ k ∷ [] → ks ≡ k ∷ drop 1 ks
front_of [] k e = absurd cc
front_of (x ∷ ks) k e = ap (λ (l : List SortKey). l ++ ks) e

-- the span at the front
pub front_span : (spans : List FormSpan) (s : FormSpan) → Some s ≡ slice_get spans 0 → (0 < length spans) × (s ≡ get_or spans 0 s)
front_span [] s e = absurd cc
front_span (x ∷ spans) s e = (omega arith, cc)

-- the first of the forms
pub first_form : (ks : List SortKey) (keys octets : List ℕ) (spans : List FormSpan) (d : FormSpan) → AreForms ks keys octets spans → 0 < length spans → NextForm ks 0 (get_or spans 0 d) keys octets
first_form ks keys octets spans d so some = next_form ks keys octets spans 0 d keys octets so some so.0 so.1

-- ---- the order

-- the keys of owners in lowercase are in the order of the owners
pub forms_ordered : (j k : SortKey) → lowered j.owner ≡ j.owner → lowered k.owner ≡ k.owner → slice_cmp nat_cmp (form_owner_key j) (form_owner_key k) ≡ key_cmp j.owner k.owner
forms_ordered j k low high = keys_ordered ([] ∷ j.owner) ([] ∷ k.owner) ∙ ap₂ (λ (x y : List (List ℕ)). key_cmp x y) low high

-- the data come after the owner, which is as long as its key, and ten octets
pub data_follow : (k : SortKey) (octets owner_key : List ℕ) → octets ≡ octets_of_key k → owner_key ≡ form_owner_key k
    → (length owner_key + 10 ≤ length octets) × (drop (length owner_key + 10) octets ≡ k.octets)
data_follow k octets owner_key octets-are key-is =
    let owner = wire (reverse k.owner) in
    let tail = to_be_bytes w16 k.rtype ++ (to_be_bytes w16 k.class ++ (to_be_bytes w32 k.ttl ++ (to_be_bytes w16 (length k.octets) ++ k.octets))) in
    let long : length owner_key ≡ length owner = ap length key-is ∙ ap (λ (l : List (List ℕ)). length (labels_key ([] ∷ l))) (sym (reverse-reverse k.owner)) ∙ owner_size (reverse k.owner) in (
      omega (arith, ap length octets-are, long, length-append owner tail),
      (λ i. drop (long i + 10) (octets-are i)) ∙ sym (drop-drop 10 (length owner) (owner ++ tail)) ∙ ap (drop 10) (past_all owner tail),
    )

-- ---- the owner

-- what is read as a name at the start of octets is one, and so is no label
read_name : (o : Option (List (List ℕ) × List ℕ)) (octets : List ℕ) → plain_name octets ≡ o → IsName (unwrap_or o ([], [])).0
read_name None octets e = record { sizes = tt; size = omega arith }
read_name (Some (labels, rest)) octets e = (plain_name_takes octets labels rest e).0

pub owner_is_name : (k : SortKey) → IsForm k → IsName (reverse k.owner)
owner_is_name k is =
    let found = unwrap_or (plain_name (octets_of_key k)) ([], []) in
    let labels : found.0 ≡ reverse k.owner = sym (reverse-reverse found.0) ∙ ap (λ (j : SortKey). reverse j.owner) is.2 in
    subst IsName labels (read_name (plain_name (octets_of_key k)) (octets_of_key k) refl)

-- its key has as many octets
pub key_short : (k : SortKey) → IsForm k → length (form_owner_key k) ≤ 255
key_short k is =
    omega (arith, ap (λ (l : List (List ℕ)). length (labels_key ([] ∷ l))) (sym (reverse-reverse k.owner)) ∙ owner_size (reverse k.owner), (owner_is_name k is).size)

-- the owner's octets come first, as many as its key has
pub owner_leads : (k : SortKey) (octets owner_key : List ℕ) → octets ≡ octets_of_key k → owner_key ≡ form_owner_key k
    → (length owner_key ≤ length octets) × (take (length owner_key) octets ≡ wire (reverse k.owner))
owner_leads k octets owner_key octets-are key-is =
    let owner = wire (reverse k.owner) in
    let tail = to_be_bytes w16 k.rtype ++ (to_be_bytes w16 k.class ++ (to_be_bytes w32 k.ttl ++ (to_be_bytes w16 (length k.octets) ++ k.octets))) in
    let long : length owner_key ≡ length owner = ap length key-is ∙ ap (λ (l : List (List ℕ)). length (labels_key ([] ∷ l))) (sym (reverse-reverse k.owner)) ∙ owner_size (reverse k.owner) in (
      omega (arith, ap length octets-are, long, length-append owner tail),
      (λ i. take (long i) (octets-are i)) ∙ take_at owner tail (length owner) refl,
    )

-- the labels of the owner's octets, which are in lowercase
pub owner_read : (k : SortKey) (octets : List ℕ) → IsForm k → octets ≡ wire (reverse k.owner)
    → (all_of (plain_name octets) ≡ Some (name_labels octets)) × (name_labels octets ≡ reverse k.owner) × (key_of octets ≡ k.owner)
owner_read k octets is put =
    let read = labels_of_wire (reverse k.owner) (owner_is_name k is) in
    let labels : name_labels octets ≡ reverse k.owner = ap name_labels put ∙ read.1 in (
      ap (λ (l : List ℕ). all_of (plain_name l)) put ∙ read.0 ∙ ap Some (sym labels),
      labels,
      ap key labels ∙ ap reverse (lowered-reverse k.owner) ∙ reverse-reverse (lowered k.owner) ∙ is.0,
    )

-- ---- one of the forms

pub form_is : (k : SortKey) (s : FormSpan) (octets : List ℕ) → s ≡ span_of k → octets ≡ octets_of_key k → IsForm k → form_in octets s.class s.rtype s.ttl ≡ k
form_is k s octets span is form = (λ i. form_in (is i) (span i).class (span i).rtype (span i).ttl) ∙ form.2

pub is_form_of_parts : (k : SortKey) (s : FormSpan) (owner_key octets : List ℕ) → s ≡ span_of k → owner_key ≡ form_owner_key k → octets ≡ octets_of_key k → IsForm k
    → (owner_key ≡ form_owner_key (form_in octets s.class s.rtype s.ttl)) × (octets ≡ octets_of_key (form_in octets s.class s.rtype s.ttl)) × IsForm (form_in octets s.class s.rtype s.ttl)
is_form_of_parts k s owner_key octets span key-is is form =
    let same : k ≡ form_in octets s.class s.rtype s.ttl = sym (form_is k s octets span is form) in
    (key-is ∙ ap form_owner_key same, is ∙ ap octets_of_key same, subst IsForm same form)

-- ---- in order

-- what sorts the forms of records leaves what the definition gives
pub sorted_forms : (rs : List RecordValue) (forms sorted : List SortKey) → forms ≡ map sort_key rs → IsPermutation forms sorted → IsSorted sort_key_cmp sorted → sorted ≡ map sort_key (in_order rs)
sorted_forms rs forms sorted are moved is =
    let up : Ascends sort_key_cmp sorted = subst (Ascends sort_key_cmp) (map-id sorted)
    (ascends_from_far (λ k. k) sort_key_cmp sorted (sorted_far (λ j k. is_lt (sort_key_cmp j k)) (ranks_by sort_key_cmp_total (λ k. k)) sorted is)) in
    let sums : SameSums sorted (map sort_key (in_order rs)) = λ f. sums_permuted forms sorted moved f ∙ ap (times f) are ∙ sym (in_order_sums rs f) in
    sorted_unique sort_key_cmp sort_key_cmp_total sort_key_cmp_same sorted (map sort_key (in_order rs)) up (ascends_in_order rs) sums
