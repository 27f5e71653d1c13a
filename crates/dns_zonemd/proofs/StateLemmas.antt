-- What is kept after one more record.
use Rattle.std.proofs.Common.{◌≡◌, ℕ, suc, ◌+◌, ◌*◌, ◌<◌, ◌≤◌, Bool, true, false, cond, Result, Ok, Err, OnOk, List, [], ◌∷◌, ◌++◌, filter, length, map, refl, sym, ap, ◌∙◌, arith, append-nil}
use Rattle.std.specs.Prelude.{min}
use Rattle.std.specs.List.{concat, dedup_from}
use Rattle.std.specs.Ordering.{eq_by_cmp, is_gt}
use Rattle.std.specs.declared.cmp.Ordering.{Ordering}
use Rattle.std.specs.declared.cmp.Ordering.TheVariants.{Less, Equal, Greater}
use Rattle.std.proofs.lemmas.List.{map-append}
use Rattle.std.proofs.Math.Nat.{min-eq_left}
use Rattle.std.proofs.lemmas.List.Elements.{filter-append}
use Rattle.std.proofs.lemmas.List.Folds.{concat-append}
use Rattle.dns_message.specs.Order.{SortKey, alike_cmp, octets_of_key, sort_key_cmp}
use Rattle.dns_zonemd.specs.SortedZone.{InOrder, firsts}
use Rattle.dns_zonemd.specs.States.{comes_before, is_alike_first, last_of}

-- ---- the last

pub last_more : (ks : List SortKey) (k : SortKey) → last_of (ks ++ k ∷ []) ≡ k ∷ []
last_more [] k = refl
last_more (i ∷ []) k = refl
last_more (i ∷ j ∷ ks) k = last_more (j ∷ ks) k

-- ---- of alike records the first

abbrev same : SortKey → SortKey → Bool
same = eq_by_cmp alike_cmp

-- what is left of records from one on begins with it
begins : (k : SortKey) (xs : List SortKey) → (rest : List SortKey) × (dedup_from same k xs ≡ k ∷ rest)
begins k [] = ([], refl)
begins k (x ∷ xs) = by (same x k) (begins k xs) where
  by : (b : Bool) → (rest : List SortKey) × (dedup_from same k xs ≡ k ∷ rest) → (rest : List SortKey) × (cond b (dedup_from same k xs) (k ∷ dedup_from same x xs) ≡ k ∷ rest)
  by true so = so
  by false so = (dedup_from same x xs, refl)

-- the last of what is left from one on, after another
last_after : (j k : SortKey) (xs : List SortKey) → last_of (j ∷ dedup_from same k xs) ≡ last_of (dedup_from same k xs)
last_after j k xs = let so = begins k xs in ap (λ (l : List SortKey). last_of (j ∷ l)) so.1 ∙ sym (ap last_of so.1)

abbrev one_more : List SortKey → SortKey → List SortKey
one_more ms y = cond (is_alike_first (last_of ms) y) ms (ms ++ y ∷ [])

left_more : (k : SortKey) (xs : List SortKey) (y : SortKey) → dedup_from same k (xs ++ y ∷ []) ≡ one_more (dedup_from same k xs) y
left_more k [] y = refl
left_more k (x ∷ xs) y = by (same x k) (left_more k xs y) (left_more x xs y) where
  under : (b : Bool) (ms : List SortKey) → k ∷ cond b ms (ms ++ y ∷ []) ≡ cond b (k ∷ ms) (k ∷ ms ++ y ∷ [])
  under true ms = refl
  under false ms = refl

  by : (b : Bool) → dedup_from same k (xs ++ y ∷ []) ≡ one_more (dedup_from same k xs) y → dedup_from same x (xs ++ y ∷ []) ≡ one_more (dedup_from same x xs) y
      → cond b (dedup_from same k (xs ++ y ∷ [])) (k ∷ dedup_from same x (xs ++ y ∷ [])) ≡ one_more (cond b (dedup_from same k xs) (k ∷ dedup_from same x xs)) y
  by true so later = so
  by false so later =
      ap (λ (l : List SortKey). k ∷ l) later ∙ under (is_alike_first (last_of (dedup_from same x xs)) y) (dedup_from same x xs)
      ∙ ap (λ (l : List SortKey). cond (is_alike_first l y) (k ∷ dedup_from same x xs) (k ∷ dedup_from same x xs ++ y ∷ [])) (sym (last_after k x xs))

pub firsts_more : (ks : List SortKey) (k : SortKey) → firsts (ks ++ k ∷ []) ≡ one_more (firsts ks) k
firsts_more [] k = refl
firsts_more (j ∷ ks) k = left_more j ks k

-- a record that is alike the last, and one that is not
pub alike_more : (ks : List SortKey) (k : SortKey) → is_alike_first (last_of (firsts ks)) k ≡ true → firsts (ks ++ k ∷ []) ≡ firsts ks
alike_more ks k is = firsts_more ks k ∙ ap (λ (b : Bool). cond b (firsts ks) (firsts ks ++ k ∷ [])) is

pub other_more : (ks : List SortKey) (k : SortKey) → is_alike_first (last_of (firsts ks)) k ≡ false → firsts (ks ++ k ∷ []) ≡ firsts ks ++ k ∷ []
other_more ks k is = firsts_more ks k ∙ ap (λ (b : Bool). cond b (firsts ks) (firsts ks ++ k ∷ [])) is

-- no more are left than there are
left_few : (k : SortKey) (xs : List SortKey) → length (dedup_from same k xs) ≤ suc (length xs)
left_few k [] = omega arith
left_few k (x ∷ xs) = by (same x k) (left_few k xs) (left_few x xs) where
  by : (b : Bool) → length (dedup_from same k xs) ≤ suc (length xs) → length (dedup_from same x xs) ≤ suc (length xs) → length (cond b (dedup_from same k xs) (k ∷ dedup_from same x xs)) ≤ suc (suc (length xs))
  by true few later = omega (arith, few)
  by false few later = omega (arith, later)

pub firsts_few : (ks : List SortKey) → length (firsts ks) ≤ length ks
firsts_few [] = omega arith
firsts_few (k ∷ ks) = left_few k ks

-- ---- of some records

pub filter_few : (p : SortKey → Bool) (ks : List SortKey) → length (filter p ks) ≤ length ks
filter_few p [] = omega arith
filter_few p (k ∷ ks) = by (p k) (filter_few p ks) where
  by : (b : Bool) → length (filter p ks) ≤ length ks → length (cond b (k ∷ filter p ks) (filter p ks)) ≤ suc (length ks)
  by true few = omega (arith, few)
  by false few = omega (arith, few)

pub kept_more : (p : SortKey → Bool) (ks : List SortKey) (k : SortKey) → p k ≡ true → filter p (ks ++ k ∷ []) ≡ filter p ks ++ k ∷ []
kept_more p ks k is = filter-append p ks (k ∷ []) ∙ ap (λ (b : Bool). filter p ks ++ cond b (k ∷ []) []) is

pub passed_more : (p : SortKey → Bool) (ks : List SortKey) (k : SortKey) → p k ≡ false → filter p (ks ++ k ∷ []) ≡ filter p ks
passed_more p ks k is = filter-append p ks (k ∷ []) ∙ ap (λ (b : Bool). filter p ks ++ cond b (k ∷ []) []) is ∙ append-nil (filter p ks)

-- ---- order

pub order_more : (ks : List SortKey) (k : SortKey) → InOrder ks → comes_before (last_of ks) k ≡ false → InOrder (ks ++ k ∷ [])
order_more [] k is after = tt
order_more (j ∷ []) k is after = ((λ (e : sort_key_cmp j k ≡ Greater). (let clash = sym after ∙ ap is_gt e in absurd cc)), tt)
order_more (i ∷ j ∷ ks) k is after = (is.0, order_more (j ∷ ks) k is.1 after)

greater : (o : Ordering) → is_gt o ≡ true → o ≡ Greater
greater Less e = absurd cc
greater Equal e = absurd cc
greater Greater e = refl

pub no_order : (ks : List SortKey) (k : SortKey) → comes_before (last_of ks) k ≡ true → InOrder (ks ++ k ∷ []) → ⊥
no_order [] k before is = absurd cc
no_order (j ∷ []) k before is = is.0 (greater (sort_key_cmp j k) before)
no_order (i ∷ j ∷ ks) k before is = no_order (j ∷ ks) k before is.1

-- ---- octets

pub stream_more : (ms : List SortKey) (k : SortKey) → concat (map octets_of_key (ms ++ k ∷ [])) ≡ concat (map octets_of_key ms) ++ octets_of_key k
stream_more ms k =
    ap concat (map-append octets_of_key ms (k ∷ [])) ∙ concat-append (map octets_of_key ms) (octets_of_key k ∷ []) ∙ ap (λ (l : List ℕ). concat (map octets_of_key ms) ++ l) (append-nil (octets_of_key k))

-- ---- answers

-- what follows from a success
pub on_ok : {T E : Type 0} {A B : Type 0} (r : Result T E) → OnOk r A → (A → B) → OnOk r B
on_ok (Ok x) a f = f a
on_ok (Err e) a f = tt

-- one record is its own last
pub one_last : (ms : List SortKey) → length ms ≤ 1 → last_of ms ≡ ms
one_last [] few = refl
one_last (k ∷ []) few = refl
one_last (j ∷ k ∷ ks) few = absurd (omega (arith, few))

-- the octets of so many records are below the bound of their number
pub least_of : (n records : ℕ) → n ≤ 65800 * (records + 1) → records < 18446744073709551615 → min n 340282366920938463463374607431768211455 ≡ n
least_of n records few within = min-eq_left (omega (arith, few, within))

pub next_number : (n : ℕ) → n < 18446744073709551615 → min (n + 1) 18446744073709551615 ≡ n + 1
next_number n within = min-eq_left (omega (arith, within))
