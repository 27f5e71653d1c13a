-- The canonical octets of forms in a list: how many they are, and whether they are the same.
use Rattle.std.proofs.Common.{◌≡◌, ℕ, zero, suc, ◌+◌, ◌<◌, ◌≤◌, ◌&&◌, Bool, true, false, cond, List, [], ◌∷◌, ◌++◌, length, map, take, take_all, flat_map, get_or, append-nil, refl, sym, ap, ◌∙◌, arith}
use Rattle.std.specs.Prelude.{◌↔◌, nat_eq}
use Rattle.std.specs.Cmp.Lexicographic.{pointwise, pointwise_decides, bytes_decides}
use Rattle.std.specs.List.{concat, dedup}
use Rattle.std.specs.List.Sorted.{IsPermutation}
use Rattle.std.specs.Ordering.{on}
use Rattle.std.proofs.lemmas.List.{length-append, map-append, take_more}
use Rattle.std.proofs.lemmas.List.Concat.{flat_map-cons}
use Rattle.std.proofs.lemmas.List.Folds.{concat-append}
use Rattle.dns_message.specs.Order.{SortKey, octets_of_key}
use Rattle.dns_message.specs.Sorted.{times}
use Rattle.dns_message.proofs.SortedRecords.{sums_permuted}

-- ---- one more

-- the octets of one more
pub octets_more : {X : Type 0} (vs : List X) (f : X → List ℕ) (i : ℕ) (v : X) → i < length vs → v ≡ get_or vs i v → concat (map f (take (i + 1) vs)) ≡ concat (map f (take i vs)) ++ f v
octets_more {X = X} vs f i v within is =
    let grown : map f (take (i + 1) vs) ≡ map f (take i vs) ++ f v ∷ [] =
    ap (map f) (take_more vs i v within ∙ ap (λ (x : X). take i vs ++ x ∷ []) (sym is)) ∙ map-append f (take i vs) (v ∷ []) in
    ap concat grown ∙ concat-append (map f (take i vs)) (f v ∷ []) ∙ ap (λ (l : List ℕ). concat (map f (take i vs)) ++ l) (append-nil (f v))

-- the octets of all
pub octets_all : {X : Type 0} (vs : List X) (f : X → List ℕ) (i : ℕ) → length vs ≤ i → concat (map f (take i vs)) ≡ concat (map f vs)
octets_all {X = X} vs f i past = ap (λ (l : List X). concat (map f l)) (take_all i vs past)

-- how many they are
pub longer : {X : Type 0} (vs : List X) (f : X → List ℕ) (i total size : ℕ) (v : X) → i < length vs → v ≡ get_or vs i v → size ≡ length (f v) → total ≡ length (concat (map f (take i vs))) → total + size ≡ length (concat (map f (take (i + 1) vs)))
longer vs f i total size v within is size-is total-is = omega (arith, size-is, total-is, ap length (octets_more vs f i v within is), length-append (concat (map f (take i vs))) (f v))

-- those of a start of the list are no more than those of all
start_fits : {X : Type 0} (vs : List X) (f : X → List ℕ) (i : ℕ) → length (concat (map f (take i vs))) ≤ length (concat (map f vs))
start_fits [] f zero = omega arith
start_fits [] f (suc i) = omega arith
start_fits (v ∷ vs) f zero = omega arith
start_fits (v ∷ vs) f (suc i) = omega (arith, start_fits vs f i, length-append (f v) (concat (map f (take i vs))), length-append (f v) (concat (map f vs)))

-- if all octets have room, so have those so far and the next ones
pub next_fits : {X : Type 0} (vs : List X) (f : X → List ℕ) (i : ℕ) (v : X) → i < length vs → v ≡ get_or vs i v → length (concat (map f (take i vs))) + length (f v) ≤ length (concat (map f vs))
next_fits vs f i v within is = omega (arith, start_fits vs f (i + 1), ap length (octets_more vs f i v within is), length-append (concat (map f (take i vs))) (f v))

-- ---- what is left by sorting and collapsing

concat_size : {X : Type 0} (f : X → List ℕ) (vs : List X) → length (concat (map f vs)) ≡ times (λ v. length (f v)) vs
concat_size f [] = refl
concat_size f (v ∷ vs) = length-append (f v) (concat (map f vs)) ∙ ap (λ (n : ℕ). length (f v) + n) (concat_size f vs)

flat_size : {X : Type 0} (f : X → List ℕ) (vs : List X) → length (flat_map f vs) ≡ times (λ v. length (f v)) vs
flat_size f [] = refl
flat_size f (v ∷ vs) = ap length (flat_map-cons f v vs) ∙ length-append (f v) (flat_map f vs) ∙ ap (λ (n : ℕ). length (f v) + n) (flat_size f vs)

module _ {X : Type 0} (same : X → X → Bool) (f : X → ℕ) where
  fewer_from : (v : X) (vs : List X) → times f (dedup same (v ∷ vs)) ≤ f v + times f vs
  fewer_from v [] = omega arith
  fewer_from v (w ∷ vs) =
      elim (same w v) as (λ b. times f (cond b (dedup same (v ∷ vs)) (v ∷ dedup same (w ∷ vs))) ≤ f v + (f w + times f vs)) [
        | true ↦ omega (arith, fewer_from v vs)
        | false ↦ omega (arith, fewer_from w vs)
      ]

  fewer : (vs : List X) → times f (dedup same vs) ≤ times f vs
  fewer [] = omega arith
  fewer (v ∷ vs) = fewer_from v vs

-- sorted and collapsed forms have no more octets than the forms
pub no_more_octets : (same : SortKey → SortKey → Bool) (forms sorted left : List SortKey) (octets : List ℕ) → octets ≡ flat_map octets_of_key forms → IsPermutation forms sorted → left ≡ dedup same sorted
    → length (concat (map octets_of_key left)) ≤ length octets
no_more_octets same forms sorted left octets octets-are moved left-is =
    let size : SortKey → ℕ = λ k. length (octets_of_key k) in
    omega (arith, concat_size octets_of_key left, ap (times size) left-is, fewer same size sorted, sums_permuted forms sorted moved size, flat_size octets_of_key forms, ap length octets-are)

-- ---- the same octets

pointwise_on : {X : Type 0} (f : X → List ℕ) (E : List ℕ → List ℕ → Bool) (vs ws : List X) → pointwise (on f E) vs ws ≡ pointwise E (map f vs) (map f ws)
pointwise_on f E [] [] = refl
pointwise_on f E [] (w ∷ ws) = refl
pointwise_on f E (v ∷ vs) [] = refl
pointwise_on f E (v ∷ vs) (w ∷ ws) = ap (λ (b : Bool). E (f v) (f w) && b) (pointwise_on f E vs ws)

-- forms that are tested alike one by one have the same octets
pub same_octets : (forms others : List SortKey) → (pointwise (on octets_of_key (pointwise nat_eq)) forms others ≡ true) ↔ (map octets_of_key forms ≡ map octets_of_key others)
same_octets forms others =
    let by = pointwise_decides bytes_decides (map octets_of_key forms) (map octets_of_key others) in
    let is = pointwise_on octets_of_key (pointwise nat_eq) forms others in
    (λ t. by.0 (sym is ∙ t), λ e. is ∙ by.1 e)
