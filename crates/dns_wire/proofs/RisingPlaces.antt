-- Rising lists of places, and what holds of each place.
use Rattle.std.proofs.Common.{ℕ, zero, suc, ◌+◌, ◌<◌, ◌≤◌, List, [], ◌∷◌, ◌++◌, length, get_or, take, drop, sym, subst, arith, add-one}
use Rattle.std.specs.List.{AllByRecursion}
use Rattle.std.specs.List.Sorted.{IsStrictlyIncreasing}
use Rattle.std.proofs.lemmas.List.{length-append, take-append-drop}
use Rattle.dns_wire.specs.Compression.{ArePlaces}
use Rattle.dns_wire.specs.declared.sizes.TheConstants.{LAST_PLACE}

-- ---- what holds of each place

pub all_take : (P : ℕ → Type 0) (n : ℕ) (xs : List ℕ) → AllByRecursion P xs → AllByRecursion P (take n xs)
all_take P zero xs all = tt
all_take P (suc n) [] all = tt
all_take P (suc n) (x ∷ xs) all = (all.0, all_take P n xs all.1)

pub all_append : (P : ℕ → Type 0) (xs ys : List ℕ) → AllByRecursion P xs → AllByRecursion P ys → AllByRecursion P (xs ++ ys)
all_append P [] ys a b = b
all_append P (x ∷ xs) ys a b = (a.0, all_append P xs ys a.1 b)

pub all_prefix : (P : ℕ → Type 0) (xs ys : List ℕ) → AllByRecursion P (xs ++ ys) → AllByRecursion P xs
all_prefix P [] ys all = tt
all_prefix P (x ∷ xs) ys all = (all.0, all_prefix P xs ys all.1)

pub all_map : (P Q : ℕ → Type 0) (xs : List ℕ) → ((x : ℕ) → P x → Q x) → AllByRecursion P xs → AllByRecursion Q xs
all_map P Q [] f all = tt
all_map P Q (x ∷ xs) f all = (f x all.0, all_map P Q xs f all.1)

-- ---- rising lists

-- each is larger than those before it, and the first is at least low
abbrev pub Rises : ℕ → List ℕ → Type 0
Rises low [] = Unit {0}
Rises low (x ∷ xs) = (low ≤ x) × Rises (x + 1) xs

pub rises_lower : (low high : ℕ) (xs : List ℕ) → low ≤ high → Rises high xs → Rises low xs
rises_lower low high [] h r = tt
rises_lower low high (x ∷ xs) h r = (omega arith, r.1)

pub rises_strict : (low : ℕ) (xs : List ℕ) → Rises low xs → IsStrictlyIncreasing xs
rises_strict low [] r k within = absurd (omega arith)
rises_strict low (x ∷ []) r k within = absurd (omega arith)
rises_strict low (x ∷ y ∷ xs) r zero within = omega arith
rises_strict low (x ∷ y ∷ xs) r (suc k) within = rw add-one (rw add-one at (rises_strict (x + 1) (y ∷ xs) r.1 k (omega arith)))

strict_from : (low : ℕ) (xs : List ℕ) → (0 < length xs → low ≤ get_or xs 0 0) → IsStrictlyIncreasing xs → Rises low xs
strict_from low [] first s = tt
strict_from low (x ∷ xs) first s =
    (first (omega arith), strict_from (x + 1) xs (λ some. let t : x < get_or xs 0 0 = s 0 (omega arith) in omega arith) (λ k within. rw add-one (rw add-one at (s (suc k) (omega arith)))))

pub strict_rises : (xs : List ℕ) → IsStrictlyIncreasing xs → Rises 0 xs
strict_rises xs s = strict_from 0 xs (λ some. omega arith) s

pub rises_append : (low start : ℕ) (xs ys : List ℕ) → low ≤ start → Rises low xs → AllByRecursion (λ x. x < start) xs → Rises start ys → Rises low (xs ++ ys)
rises_append low start [] ys h r below s = rises_lower low start ys h s
rises_append low start (x ∷ xs) ys h r below s = (r.0, rises_append (x + 1) start xs ys (omega arith) r.1 below.1 s)

pub rises_take : (low n : ℕ) (xs : List ℕ) → Rises low xs → Rises low (take n xs)
rises_take low zero xs r = tt
rises_take low (suc n) [] r = tt
rises_take low (suc n) (x ∷ xs) r = (r.0, rises_take (x + 1) n xs r.1)

rises_prefix : (low : ℕ) (xs ys : List ℕ) → Rises low (xs ++ ys) → Rises low xs
rises_prefix low [] ys r = tt
rises_prefix low (x ∷ xs) ys r = (r.0, rises_prefix (x + 1) xs ys r.1)

pub rises_all : (low : ℕ) (xs : List ℕ) → Rises low xs → AllByRecursion (λ x. low ≤ x) xs
rises_all low [] r = tt
rises_all low (x ∷ xs) r = (r.0, all_map (λ y. x + 1 ≤ y) (λ y. low ≤ y) xs (λ y h. omega arith) (rises_all (x + 1) xs r.1))

rises_after : (low : ℕ) (xs ys : List ℕ) → Rises low (xs ++ ys) → AllByRecursion (λ y. low ≤ y) ys
rises_after low [] ys r = rises_all low ys r
rises_after low (x ∷ xs) ys r = all_map (λ y. x + 1 ≤ y) (λ y. low ≤ y) ys (λ y h. omega arith) (rises_after (x + 1) xs ys r.1)

-- what is before is smaller than what is after
pub rises_apart : (low : ℕ) (xs ys : List ℕ) → Rises low (xs ++ ys) → AllByRecursion (λ x. AllByRecursion (λ y. x < y) ys) xs
rises_apart low [] ys r = tt
rises_apart low (x ∷ xs) ys r = (all_map (λ y. x + 1 ≤ y) (λ y. x < y) ys (λ y h. omega arith) (rises_after (x + 1) xs ys r.1), rises_apart (x + 1) xs ys r.1)

-- ---- lists of places

pub places_prefix : (prefix back : List ℕ) → ArePlaces (prefix ++ back) → ArePlaces prefix
places_prefix prefix back are =
    record {
      rising = rises_strict 0 prefix (rises_prefix 0 prefix back (strict_rises (prefix ++ back) are.rising));
      few = omega (arith, length-append prefix back, are.few);
      low = all_prefix (λ place. place ≤ LAST_PLACE) prefix back are.low;
    }

pub places_take : (n : ℕ) (places : List ℕ) → ArePlaces places → ArePlaces (take n places)
places_take n places are = places_prefix (take n places) (drop n places) (subst ArePlaces (sym (take-append-drop n places)) are)

pub places_more : (places added : List ℕ) (start : ℕ) → ArePlaces places → AllByRecursion (λ place. place < start) places → Rises start added → AllByRecursion (λ place. place ≤ LAST_PLACE) added → length (places ++ added) ≤ 128 → ArePlaces (places ++ added)
places_more places added start are below rises low few =
    record {
      rising = rises_strict 0 (places ++ added) (rises_append 0 start places added (omega arith) (strict_rises places are.rising) below rises);
      few = few;
      low = all_append (λ place. place ≤ LAST_PLACE) places added are.low low;
    }
