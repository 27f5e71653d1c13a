-- Records in order, of those that are alike the first: which these are.
use Rattle.std.proofs.Common.{◌≡◌, ℕ, ◌≤◌, inl, inr, Bool, true, false, cond, List, [], ◌∷◌, map, filter, refl, sym, ap, ◌∙◌, subst, arith}
use Rattle.std.specs.Prelude.{◌↔◌, Contains, reverse, not, ◌==◌, IsTrue}
use Rattle.std.specs.List.{All, AllByRecursion, dedup}
use Rattle.std.specs.List.Sorted.{IsPermutation, IsSorted}
use Rattle.std.specs.declared.cmp.Ordering.{Ordering}
use Rattle.std.specs.declared.cmp.Ordering.TheVariants.{Less, Equal, Greater}
use Rattle.std.specs.Ordering.{is_lt, is_eq, nat_cmp, eq_by_cmp}
use Rattle.std.proofs.lemmas.Bool.Decides.{nat_tests}
use Rattle.std.proofs.lemmas.Cmp.{tied_itself}
use Rattle.std.proofs.lemmas.List.{reverse-reverse}
use Rattle.std.proofs.lemmas.List.Elements.{All-filter, recursion_from_All}
use Rattle.std.proofs.lemmas.List.Filters.{All-dedup}
use Rattle.std.proofs.lemmas.List.Kept.{Contains-from_dedup}
use Rattle.std.proofs.lemmas.List.Sorted.{ranks_by, sorted_far, All-permutation, Contains-permutation, IsPermutation-sym}
use Rattle.dns_wire.specs.Names.{lowered}
use Rattle.dns_message.specs.Canonical.{canonical_wire, lowercase_names, is_not_opt}
use Rattle.dns_message.specs.Messages.{RecordValue}
use Rattle.dns_message.specs.Order.{SortKey, sort_key, alike_cmp, ttl_cmp, sort_key_cmp, record_cmp, octets_of_key, in_order, are_alike, collapsed}
use Rattle.dns_message.specs.Same.{Alike, IsLeast, least}
use Rattle.dns_message.specs.Sorted.{Ascends, Climbs}
use Rattle.dns_message.specs.WellFormed.{WellFormed}
use Rattle.dns_message.proofs.Ordering.{records_total, key_canonical_wire, keys_from_canonical_wire, in_order_moves}
use Rattle.dns_message.proofs.FirstOfRuns.{Among, among, contains, seen_firsts, first_is_least, climbs}
use Rattle.dns_message.proofs.SortedRecords.{alike_total, ttl_total, same_key, alike_parts, ascends_in_order, ascends_from_far, keys_sorted, octets_of_keys}
use Rattle.dns_message.proofs.Whole.{canonical_wire_same}

-- ---- alike records

pub alike_keys : (r s : RecordValue) → Alike r s ↔ (alike_cmp (sort_key r) (sort_key s) ≡ Equal)
alike_keys r s = (
  λ a.
      let same : ◌≡◌ {A = SortKey} (sort_key r) (record { owner = reverse (lowered s.owner); class = s.class; rtype = s.rtype; octets = (sort_key s).octets; ttl = r.ttl }) =
      λ i. record { owner = reverse (a.owner i); class = a.class i; rtype = a.rtype i; octets = a.octets i; ttl = r.ttl } in
      ap (λ (k : SortKey). alike_cmp k (sort_key s)) same ∙ tied_itself alike_total (sort_key s),
  λ e.
      let parts = alike_parts (sort_key r) (sort_key s) e in
      record {
        owner = sym (reverse-reverse (lowered r.owner)) ∙ ap reverse parts.owner ∙ reverse-reverse (lowered s.owner);
        class = parts.class;
        rtype = parts.rtype;
        octets = parts.octets;
      },
)

-- records with the same canonical octets are alike
pub alike_octets : (r s : RecordValue) → WellFormed r → WellFormed s → canonical_wire r ≡ canonical_wire s → Alike r s
alike_octets r s is js e = (alike_keys r s).1 (ap (λ (k : SortKey). alike_cmp k (sort_key s)) (keys_from_canonical_wire r s is js e) ∙ tied_itself alike_total (sort_key s))

equal_test : (o : Ordering) → IsTrue (is_eq o) ↔ (o ≡ Equal)
equal_test Less = (λ h. absurd cc, λ e. cc)
equal_test Equal = (λ h. refl, λ e. refl)
equal_test Greater = (λ h. absurd cc, λ e. cc)

pub alike_tested : (r s : RecordValue) → IsTrue (are_alike r s) ↔ Alike r s
alike_tested r s =
    let test = equal_test (alike_cmp (sort_key r) (sort_key s)) in
    let keys = alike_keys r s in
    (λ h. keys.1 (test.0 h), λ a. test.1 (keys.0 a))

not_opt_too : (r s : RecordValue) → Alike s r → is_not_opt r ≡ true → is_not_opt s ≡ true
not_opt_too r s a not_opt = ap (λ (n : ℕ). not (n == 41)) a.rtype ∙ not_opt

at_most : (m n : ℕ) → is_lt (nat_cmp n m) ≡ false → m ≤ n
at_most m n h = grind (arith, nat_tests)

not_less : (m n : ℕ) → m ≤ n → is_lt (nat_cmp n m) ≡ false
not_less m n h = grind (arith, nat_tests)

-- ---- members of lists

among_map : {X Y : Type 0} (f : X → Y) (xs : List X) (x : X) → Among x xs → Among (f x) (map f xs)
among_map f [] x m = absurd m
among_map f (y ∷ ys) x (inl e) = inl (ap f e)
among_map f (y ∷ ys) x (inr deep) = inr (among_map f ys x deep)

from_map : {X Y : Type 0} (f : X → Y) (xs : List X) (y : Y) → Among y (map f xs) → (x : X) × Among x xs × (f x ≡ y)
from_map f [] y m = absurd m
from_map f (x ∷ xs) y (inl e) = (x, inl refl, sym e)
from_map f (x ∷ xs) y (inr deep) = let found = from_map f xs y deep in (found.0, inr found.1, found.2)

among_not_opt : (rs : List RecordValue) (x : RecordValue) → Among x rs → is_not_opt x ≡ true → Among x (filter is_not_opt rs)
among_not_opt [] x m not_opt = absurd m
among_not_opt (r ∷ rs) x m not_opt =
    elim (is_not_opt r) as (λ b. is_not_opt r ≡ b → Among x (cond b (r ∷ filter is_not_opt rs) (filter is_not_opt rs))) [
      | true ↦ λ is. elim m as (λ _. Among x (r ∷ filter is_not_opt rs)) [ inl e ↦ inl e | inr deep ↦ inr (among_not_opt rs x deep not_opt) ]
      | false ↦ λ is. elim m as (λ _. Among x (filter is_not_opt rs)) [
        | inl e ↦ let wrong : true ≡ false = sym not_opt ∙ ap is_not_opt e ∙ is in absurd cc
        | inr deep ↦ among_not_opt rs x deep not_opt
      ]
    ] refl

from_not_opt : (rs : List RecordValue) (x : RecordValue) → Among x (filter is_not_opt rs) → Among x rs × (is_not_opt x ≡ true)
from_not_opt [] x m = absurd m
from_not_opt (r ∷ rs) x m =
    elim (is_not_opt r) as (λ b. is_not_opt r ≡ b → Among x (cond b (r ∷ filter is_not_opt rs) (filter is_not_opt rs)) → Among x (r ∷ rs) × (is_not_opt x ≡ true)) [
      | true ↦ λ is m. elim m as (λ _. Among x (r ∷ rs) × (is_not_opt x ≡ true)) [
        | inl e ↦ (inl e, ap is_not_opt e ∙ is)
        | inr deep ↦ let found = from_not_opt rs x deep in (inr found.0, found.1)
      ]
      | false ↦ λ is m. let found = from_not_opt rs x m in (inr found.0, found.1)
    ] refl m

ordered : (rs : List RecordValue) (x : RecordValue) → Contains rs x → Contains (in_order rs) x
ordered rs x h = Contains-permutation rs (in_order rs) x (in_order_moves rs) h

from_ordered : (rs : List RecordValue) (x : RecordValue) → Contains (in_order rs) x → Contains rs x
from_ordered rs x h = Contains-permutation (in_order rs) rs x (IsPermutation-sym rs (in_order rs) (in_order_moves rs)) h

-- ---- which records are left

pub keys_collapsed : (rs : List RecordValue) → map sort_key (collapsed rs) ≡ dedup (eq_by_cmp alike_cmp) (map sort_key (in_order rs))
keys_collapsed rs = seen_firsts sort_key (eq_by_cmp alike_cmp) (in_order rs)

pub keys_climb : (rs : List RecordValue) → Climbs alike_cmp (map sort_key (collapsed rs))
keys_climb rs = subst (Climbs alike_cmp) (sym (keys_collapsed rs)) (climbs alike_cmp ttl_cmp alike_total ttl_total (map sort_key (in_order rs)) (ascends_in_order rs))

-- a record of the list that is compared by this, to which no alike record has a smaller time to live
pub record IsLeastKey (rs : List RecordValue) (k : SortKey) : Type 0 where
  pub found : RecordValue
  pub occurs : Contains rs found
  pub not_opt : is_not_opt found ≡ true
  pub compared : sort_key found ≡ k
  pub least : (other : RecordValue) → Contains rs other → Alike other found → found.ttl ≤ other.ttl

not_opt_key : (rs : List RecordValue) (r : RecordValue) → Contains rs r → is_not_opt r ≡ true → Among (sort_key r) (map sort_key (in_order (filter is_not_opt rs)))
not_opt_key rs r occurs not_opt =
    among_map sort_key (in_order (filter is_not_opt rs)) r (among (in_order (filter is_not_opt rs)) r (ordered (filter is_not_opt rs) r (contains (filter is_not_opt rs) r (among_not_opt rs r (among rs r occurs) not_opt))))

from_not_opt_order : (rs : List RecordValue) (r : RecordValue) → Contains (in_order (filter is_not_opt rs)) r → Contains rs r × (is_not_opt r ≡ true)
from_not_opt_order rs r h =
    let found = from_not_opt rs r (among (filter is_not_opt rs) r (from_ordered (filter is_not_opt rs) r h)) in
    (contains rs r found.0, found.1)

from_not_opt_key : (rs : List RecordValue) (k : SortKey) → Among k (map sort_key (in_order (filter is_not_opt rs))) → (r : RecordValue) × Contains rs r × (is_not_opt r ≡ true) × (sort_key r ≡ k)
from_not_opt_key rs k m =
    let found = from_map sort_key (in_order (filter is_not_opt rs)) k m in
    let there = from_not_opt_order rs found.0 (contains (in_order (filter is_not_opt rs)) found.0 found.1) in
    (found.0, there.0, there.1, found.2)

pub least_keys : (rs : List RecordValue) (k : SortKey) → Among k (map sort_key (collapsed (filter is_not_opt rs))) ↔ IsLeastKey rs k
least_keys rs k =
    let all = map sort_key (in_order (filter is_not_opt rs)) in
    let law = first_is_least alike_cmp ttl_cmp alike_total ttl_total same_key all (ascends_in_order (filter is_not_opt rs)) k in
    let same = keys_collapsed (filter is_not_opt rs) in (
      λ m.
          let held = law.0 (subst (Among k) same m) in
          let found = from_not_opt_key rs k held.0 in
          record {
            found = found.0;
            occurs = found.1;
            not_opt = found.2;
            compared = found.3;
            least = λ other occurs alike.
                let tied : alike_cmp (sort_key other) k ≡ Equal = ap (alike_cmp (sort_key other)) (sym found.3) ∙ (alike_keys other found.0).0 alike in
                let later = held.1 (sort_key other) (not_opt_key rs other occurs (not_opt_too found.0 other alike found.2)) tied in
                let late : is_lt (nat_cmp other.ttl found.0.ttl) ≡ false = ap (λ (l : SortKey). is_lt (nat_cmp other.ttl l.ttl)) found.3 ∙ later in
                at_most found.0.ttl other.ttl late;
          },
      λ h.
          let here : Among k all = subst (λ (l : SortKey). Among l all) h.compared (not_opt_key rs h.found h.occurs h.not_opt) in
          let none : (j : SortKey) → Among j all → alike_cmp j k ≡ Equal → is_lt (ttl_cmp j k) ≡ false = λ j there tied.
          (let other = from_not_opt_key rs j there in
          let alike = (alike_keys other.0 h.found).1 (ap (λ (l : SortKey). alike_cmp l (sort_key h.found)) other.3 ∙ ap (alike_cmp j) h.compared ∙ tied) in
          let late = not_less h.found.ttl other.0.ttl (h.least other.0 other.1 alike) in
          ap (λ (l : SortKey). is_lt (nat_cmp j.ttl l.ttl)) (sym h.compared) ∙ ap (λ (l : SortKey). is_lt (nat_cmp l.ttl h.found.ttl)) (sym other.3) ∙ late) in
          subst (Among k) (sym same) (law.1 (here, none)),
    )

-- the records that are left are in the list
pub all_left : (P : RecordValue → Type 0) (rs : List RecordValue) → All P rs → All P (collapsed (filter is_not_opt rs))
all_left P rs all = All-dedup are_alike P (in_order (filter is_not_opt rs)) (All-permutation P (filter is_not_opt rs) (in_order (filter is_not_opt rs)) (in_order_moves (filter is_not_opt rs)) (All-filter is_not_opt P rs all))

pub left_stand : (rs : List RecordValue) (r : RecordValue) → Contains (collapsed (filter is_not_opt rs)) r → Contains rs r × (is_not_opt r ≡ true)
left_stand rs r h = from_not_opt_order rs r (Contains-from_dedup are_alike (in_order (filter is_not_opt rs)) r h)

-- if no record is of type OPT, all are kept
pub all_not_opt : (rs : List RecordValue) → All (λ (r : RecordValue). is_not_opt r ≡ true) rs → filter is_not_opt rs ≡ rs
all_not_opt rs all = by rs (recursion_from_All (λ (r : RecordValue). is_not_opt r ≡ true) rs all) where
  by : (rs : List RecordValue) → AllByRecursion (λ (r : RecordValue). is_not_opt r ≡ true) rs → filter is_not_opt rs ≡ rs
  by [] all = refl
  by (r ∷ rs) all = ap (λ (b : Bool). cond b (r ∷ filter is_not_opt rs) (filter is_not_opt rs)) all.0 ∙ ap (λ (l : List RecordValue). r ∷ l) (by rs all.1)

-- ---- in the words of the relation

of_member : {X : Type 0} (P : X → Type 0) (xs : List X) (x : X) → All P xs → Contains xs x → P x
of_member P xs x all h = subst P h.2 (all h.0 x h.1)

pub least_members : (rs : List RecordValue) → All WellFormed rs → (x : RecordValue) → Contains (least rs) x ↔ IsLeast rs x
least_members rs are x =
    let left = collapsed (filter is_not_opt rs) in (
      λ h.
          let found = from_map lowercase_names left x (among (least rs) x h) in
          let r = found.0 in
          let there = left_stand rs r (contains left r found.1) in
          let key = (least_keys rs (sort_key r)).0 (among_map sort_key left r found.1) in
          let ttl : key.found.ttl ≡ r.ttl = ap (λ (k : SortKey). k.ttl) key.compared in
          record {
            found = r;
            occurs = there.0;
            not_opt = there.1;
            lowercased = found.2;
            least = λ other occurs alike.
                let also = (alike_keys other key.found).1 (ap (alike_cmp (sort_key other)) key.compared ∙ (alike_keys other r).0 alike) in
                omega (arith, ttl, key.least other occurs also);
          },
      λ h.
          let key = (least_keys rs (sort_key h.found)).1 (record { found = h.found; occurs = h.occurs; not_opt = h.not_opt; compared = refl; least = h.least }) in
          let found = from_map sort_key left (sort_key h.found) key in
          let r = found.0 in
          let there = left_stand rs r (contains left r found.1) in
          let octets : canonical_wire r ≡ canonical_wire h.found = sym (key_canonical_wire r) ∙ ap octets_of_key found.2 ∙ key_canonical_wire h.found in
          let lowercases : lowercase_names r ≡ lowercase_names h.found = (canonical_wire_same r h.found (of_member WellFormed rs r are there.0) (of_member WellFormed rs h.found are h.occurs)).0 octets in
          contains (least rs) x (subst (λ (y : RecordValue). Among y (least rs)) (lowercases ∙ h.lowercased) (among_map lowercase_names left r found.1)),
    )

-- ---- what code leaves

pub ascends_sorted : (rs : List RecordValue) → IsSorted record_cmp rs → Ascends sort_key_cmp (map sort_key rs)
ascends_sorted rs h = ascends_from_far sort_key sort_key_cmp rs (sorted_far (λ r s. is_lt (record_cmp r s)) (ranks_by records_total (λ r. r)) rs h)

-- of sorted records the first of those that are alike
pub collapsed_sorted : (rs sorted : List RecordValue) → IsPermutation rs sorted → IsSorted record_cmp sorted → map sort_key (dedup are_alike sorted) ≡ map sort_key (collapsed rs)
collapsed_sorted rs sorted moved is =
    seen_firsts sort_key (eq_by_cmp alike_cmp) sorted ∙ ap (dedup (eq_by_cmp alike_cmp)) (keys_sorted rs sorted moved (ascends_sorted sorted is)) ∙ sym (keys_collapsed rs)

-- records that are compared alike have the same canonical octets
pub octets_alike : (rs ss : List RecordValue) → map sort_key rs ≡ map sort_key ss → map canonical_wire rs ≡ map canonical_wire ss
octets_alike rs ss e = sym (octets_of_keys rs) ∙ ap (map octets_of_key) e ∙ octets_of_keys ss
