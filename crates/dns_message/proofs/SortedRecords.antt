-- The order of records, and that a list has one sorted order.
use Rattle.std.proofs.Common.{◌≡◌, ℕ, suc, ◌+◌, ◌<◌, ◌≤◌, Bool, true, false, cond, List, [], ◌∷◌, length, map, refl, sym, ap, ◌∙◌, arith, get_or}
use Rattle.std.specs.Prelude.{not}
use Rattle.std.specs.declared.cmp.Ordering.{Ordering}
use Rattle.std.specs.declared.cmp.Ordering.TheVariants.{Less, Equal, Greater}
use Rattle.std.specs.Ordering.{is_lt, is_gt, ordering_then, ordering_reverse}
use Rattle.std.specs.Cmp.{IsTotalOrder}
use Rattle.std.specs.FinMap.{nat_cmp-IsAntisymmetric, slice_cmp-IsAntisymmetric}
use Rattle.std.specs.List.Sorted.{IsPermutation}
use Rattle.std.proofs.lemmas.Cmp.{nat_cmp_total, on_total, then_total, nat_list_cmp_total, tied_itself}
use Rattle.std.proofs.lemmas.List.{reverse-reverse}
use Rattle.std.proofs.lemmas.List.Recursion.{is_sum_by}
use Rattle.std.proofs.lemmas.List.Sorted.{ranks_by, sum_by-IsPermutation, IsPermutation-map}
use Rattle.dns_wire.specs.Names.{lowered, wire}
use Rattle.dns_name.proofs.NameSameness.{keys_total}
use Rattle.dns_record.specs.Records.{octets_of_parts}
use Rattle.dns_message.specs.Canonical.{canonical_wire}
use Rattle.dns_record.specs.Fields.{fields_octets, canonical_fields}
use Rattle.dns_message.specs.Messages.{RecordValue}
use Rattle.dns_message.specs.Order.{SortKey, sort_key, alike_cmp, ttl_cmp, sort_key_cmp, precedes, inserted, in_order, octets_of_key}
use Rattle.dns_message.specs.Sorted.{times, NoneBelow, Ascends}

-- ---- the order of what records are compared by

pub alike_total : IsTotalOrder alike_cmp
alike_total = then_total (on_total (λ k. k.owner) keys_total) (then_total (on_total (λ k. k.class) nat_cmp_total)
    (then_total (on_total (λ k. k.rtype) nat_cmp_total) (on_total (λ k. k.octets) nat_list_cmp_total)))

pub ttl_total : IsTotalOrder ttl_cmp
ttl_total = on_total (λ k. k.ttl) nat_cmp_total

pub sort_key_cmp_total : IsTotalOrder sort_key_cmp
sort_key_cmp_total = then_total alike_total ttl_total

-- what ties at both parts
both_tie : (a b : Ordering) → ordering_then a b ≡ Equal → (a ≡ Equal) × (b ≡ Equal)
both_tie Less b h = cc
both_tie Equal b h = (refl, h)
both_tie Greater b h = cc

-- keys that tie except for the time to live have the same other parts
pub record SameParts (j k : SortKey) : Type 0 where
  pub owner : j.owner ≡ k.owner
  pub class : j.class ≡ k.class
  pub rtype : j.rtype ≡ k.rtype
  pub octets : j.octets ≡ k.octets

pub alike_parts : (j k : SortKey) → alike_cmp j k ≡ Equal → SameParts j k
alike_parts j k h =
    let one = both_tie _ _ h in
    let two = both_tie _ _ one.1 in
    let three = both_tie _ _ two.1 in
    record {
      owner = slice_cmp-IsAntisymmetric (slice_cmp-IsAntisymmetric nat_cmp-IsAntisymmetric) j.owner k.owner one.0;
      class = nat_cmp-IsAntisymmetric j.class k.class two.0;
      rtype = nat_cmp-IsAntisymmetric j.rtype k.rtype three.0;
      octets = slice_cmp-IsAntisymmetric nat_cmp-IsAntisymmetric j.octets k.octets three.1;
    }

pub same_key : (j k : SortKey) → alike_cmp j k ≡ Equal → ttl_cmp j k ≡ Equal → j ≡ k
same_key j k h t =
    let same = alike_parts j k h in
    let ttl = nat_cmp-IsAntisymmetric j.ttl k.ttl t in
    λ i. record { owner = same.owner i; class = same.class i; rtype = same.rtype i; octets = same.octets i; ttl = ttl i }

pub sort_key_cmp_same : (j k : SortKey) → sort_key_cmp j k ≡ Equal → j ≡ k
sort_key_cmp_same j k h = let both = both_tie _ _ h in same_key j k both.0 both.1

-- ---- one sorted order

-- the same elements, each as often
abbrev pub SameSums : {K : Type 0} → List K → List K → Type 0
SameSums {K} xs ys = (f : K → ℕ) → times f xs ≡ times f ys

zero_first : (b : Bool) (n : ℕ) → cond b 1 0 + n ≡ 0 → b ≡ false
zero_first true n h = absurd (omega arith)
zero_first false n h = refl

module _ {K : Type 0} (R : K → K → Ordering) (total : IsTotalOrder R) (same : (x y : K) → R x y ≡ Equal → x ≡ y) where
  none_sum : (x : K) (zs : List K) → NoneBelow R x zs → times (λ z. cond (is_lt (R z x)) 1 0) zs ≡ 0
  none_sum x [] h = refl
  none_sum x (z ∷ zs) h = rw h.0 (omega (arith, none_sum x zs h.1))

  pub itself : (x : K) → is_lt (R x x) ≡ false
  itself x = ap is_lt (tied_itself total x)

  -- neither is before the other
  pub tie : (r : Ordering) → is_lt r ≡ false → is_lt (ordering_reverse r) ≡ false → r ≡ Equal
  tie Less h k = cc
  tie Equal h k = refl
  tie Greater h k = cc

  not_below : (x y : K) (xs ys : List K) → NoneBelow R x xs → SameSums (x ∷ xs) (y ∷ ys) → is_lt (R y x) ≡ false
  not_below x y xs ys none sums =
      let s = sums (λ z. cond (is_lt (R z x)) 1 0) in
      let z : times (λ z. cond (is_lt (R z x)) 1 0) (x ∷ xs) ≡ 0 = none_sum x (x ∷ xs) (itself x, none) in
      zero_first (is_lt (R y x)) (times (λ z. cond (is_lt (R z x)) 1 0) ys) (sym s ∙ z)

  pub sorted_unique : (xs ys : List K) → Ascends R xs → Ascends R ys → SameSums xs ys → xs ≡ ys
  sorted_unique [] [] up vp sums = refl
  sorted_unique [] (y ∷ ys) up vp sums = absurd (omega (arith, sums (λ _. 1)))
  sorted_unique (x ∷ xs) [] up vp sums = absurd (omega (arith, sums (λ _. 1)))
  sorted_unique (x ∷ xs) (y ∷ ys) up vp sums =
      let yx = not_below x y xs ys up.0 sums in
      let xy = not_below y x ys xs vp.0 (λ f. sym (sums f)) in
      let e : x ≡ y = same x y (tie (R x y) xy (ap is_lt (sym (total.antisymm y x)) ∙ yx)) in
      let tails : SameSums xs ys = λ f. (let h = sums f in let g = ap f e in omega (arith, h, g)) in
      ap (λ (z : K). z ∷ xs) e ∙ ap (λ (zs : List K). y ∷ zs) (sorted_unique xs ys up.1 vp.1 tails)

-- a permutation has the same sums
pub sums_permuted : {K : Type 0} (xs ys : List K) → IsPermutation xs ys → SameSums ys xs
sums_permuted xs ys h f = is_sum_by (times f) f refl (λ _ _. refl) ys ∙ sum_by-IsPermutation f xs ys h ∙ sym (is_sum_by (times f) f refl (λ _ _. refl) xs)

-- order by index, between any two places, is order by recursion
none_from_far : {X K : Type 0} (v : X → K) (R : K → K → Ordering) (x : X) (zs : List X)
    → ((j : ℕ) (d : X) → j < length zs → is_lt (R (v (get_or zs j d)) (v x)) ≡ false) → NoneBelow R (v x) (map v zs)
none_from_far v R x [] h = tt
none_from_far v R x (z ∷ zs) h = (h 0 x (omega arith), none_from_far v R x zs (λ j d lt. h (suc j) d (omega arith)))

pub ascends_from_far : {X K : Type 0} (v : X → K) (R : K → K → Ordering) (xs : List X)
    → ((i j : ℕ) (d : X) → i ≤ j → j < length xs → is_lt (R (v (get_or xs j d)) (v (get_or xs i d))) ≡ false) → Ascends R (map v xs)
ascends_from_far v R [] h = tt
ascends_from_far v R (x ∷ xs) h = (
  none_from_far v R x xs (λ j d lt. h 0 (suc j) d (omega arith) (omega arith)),
  ascends_from_far v R xs (λ i j d le lt. h (suc i) (suc j) d (omega arith) (omega arith)),
)

-- ---- the order of the definitions

-- two answers that are each other's reverse
turned : (a b : Ordering) → b ≡ ordering_reverse a → not (is_gt a) ≡ true → is_lt b ≡ false
turned Less b e h = rw e refl
turned Equal b e h = rw e refl
turned Greater b e h = cc

over : (a : Ordering) → not (is_gt a) ≡ false → is_lt a ≡ false
over Less h = cc
over Equal h = refl
over Greater h = refl

precedes_is : (r s : RecordValue) → precedes r s ≡ true → is_lt (sort_key_cmp (sort_key s) (sort_key r)) ≡ false
precedes_is r s h = turned (sort_key_cmp (sort_key r) (sort_key s)) (sort_key_cmp (sort_key s) (sort_key r)) (sort_key_cmp_total.antisymm (sort_key s) (sort_key r)) h

follows_is : (r s : RecordValue) → precedes r s ≡ false → is_lt (sort_key_cmp (sort_key r) (sort_key s)) ≡ false
follows_is r s h = over (sort_key_cmp (sort_key r) (sort_key s)) h

inserted_sums : (f : SortKey → ℕ) (r : RecordValue) (rs : List RecordValue) → times f (map sort_key (inserted r rs)) ≡ f (sort_key r) + times f (map sort_key rs)
unfolding inserted
inserted_sums f r [] = refl
inserted_sums f r (s ∷ rs) =
    elim (precedes r s) as (λ b. times f (map sort_key (cond b (r ∷ s ∷ rs) (s ∷ inserted r rs))) ≡ f (sort_key r) + (f (sort_key s) + times f (map sort_key rs))) [
      | true ↦ refl
      | false ↦ omega (arith, inserted_sums f r rs)
    ]

pub in_order_sums : (rs : List RecordValue) → SameSums (map sort_key (in_order rs)) (map sort_key rs)
unfolding in_order
in_order_sums [] f = refl
in_order_sums (r ∷ rs) f = inserted_sums f r (in_order rs) ∙ ap (λ (n : ℕ). f (sort_key r) + n) (in_order_sums rs f)

-- what is before the whole list
none_inserted : (x : SortKey) (r : RecordValue) (rs : List RecordValue) → is_lt (sort_key_cmp (sort_key r) x) ≡ false → NoneBelow sort_key_cmp x (map sort_key rs)
    → NoneBelow sort_key_cmp x (map sort_key (inserted r rs))
unfolding inserted
none_inserted x r [] h none = (h, tt)
none_inserted x r (s ∷ rs) h none =
    elim (precedes r s) as (λ b. NoneBelow sort_key_cmp x (map sort_key (cond b (r ∷ s ∷ rs) (s ∷ inserted r rs)))) [
      | true ↦ (h, none)
      | false ↦ (none.0, none_inserted x r rs h none.1)
    ]

-- what comes after y and is not before it
none_further : (x y : SortKey) (zs : List SortKey) → is_lt (sort_key_cmp y x) ≡ false → NoneBelow sort_key_cmp y zs → NoneBelow sort_key_cmp x zs
none_further x y [] h none = tt
none_further x y (z ∷ zs) h none = ((ranks_by sort_key_cmp_total (λ (k : SortKey). k)).chain z y x none.0 h, none_further x y zs h none.1)

ascends_inserted : (r : RecordValue) (rs : List RecordValue) → Ascends sort_key_cmp (map sort_key rs) → Ascends sort_key_cmp (map sort_key (inserted r rs))
unfolding inserted
ascends_inserted r [] up = (tt, tt)
ascends_inserted r (s ∷ rs) up =
    elim (precedes r s) as (λ b. precedes r s ≡ b → Ascends sort_key_cmp (map sort_key (cond b (r ∷ s ∷ rs) (s ∷ inserted r rs)))) [
      | true ↦ λ h. ((precedes_is r s h, none_further (sort_key r) (sort_key s) (map sort_key rs) (precedes_is r s h) up.0), up)
      | false ↦ λ h. (none_inserted (sort_key s) r rs (follows_is r s h) up.0, ascends_inserted r rs up.1)
    ] refl

pub ascends_in_order : (rs : List RecordValue) → Ascends sort_key_cmp (map sort_key (in_order rs))
unfolding in_order
ascends_in_order [] = tt
ascends_in_order (r ∷ rs) = ascends_inserted r (in_order rs) (ascends_in_order rs)

-- ---- the list

pub octets_of_keys : (rs : List RecordValue) → map octets_of_key (map sort_key rs) ≡ map canonical_wire rs
octets_of_keys [] = refl
octets_of_keys (r ∷ rs) =
    ap (λ (small : List (List ℕ)). octets_of_parts (wire small) r.rtype r.class r.ttl (fields_octets (canonical_fields r.rtype r.content)) ∷ map octets_of_key (map sort_key rs)) (reverse-reverse (lowered r.owner))
    ∙ ap (λ (l : List (List ℕ)). canonical_wire r ∷ l) (octets_of_keys rs)

-- what a sort leaves is what the definition gives
pub keys_sorted : (rs sorted : List RecordValue) → IsPermutation rs sorted → Ascends sort_key_cmp (map sort_key sorted) → map sort_key sorted ≡ map sort_key (in_order rs)
keys_sorted rs sorted moved up =
    let sums : SameSums (map sort_key sorted) (map sort_key (in_order rs)) = λ f. sums_permuted (map sort_key rs) (map sort_key sorted) (IsPermutation-map sort_key rs sorted moved) f ∙ sym (in_order_sums rs f) in
    sorted_unique sort_key_cmp sort_key_cmp_total sort_key_cmp_same (map sort_key sorted) (map sort_key (in_order rs)) up (ascends_in_order rs) sums

-- records that are compared alike one by one have one order
pub keys_in_order : (rs ss : List RecordValue) → map sort_key rs ≡ map sort_key ss → map sort_key (in_order rs) ≡ map sort_key (in_order ss)
keys_in_order rs ss e =
    let sums : SameSums (map sort_key (in_order rs)) (map sort_key (in_order ss)) = λ f. in_order_sums rs f ∙ ap (times f) e ∙ sym (in_order_sums ss f) in
    sorted_unique sort_key_cmp sort_key_cmp_total sort_key_cmp_same (map sort_key (in_order rs)) (map sort_key (in_order ss)) (ascends_in_order rs) (ascends_in_order ss) sums
