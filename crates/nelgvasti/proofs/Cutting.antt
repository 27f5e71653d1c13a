-- Messages that are cut out of octets.
use Rattle.std.proofs.Common.{◌≡◌, ◌+◌, ◌-◌, ◌^◌, ◌<◌, ◌≤◌, ◌⊎◌, inl, inr, ℕ, List, [], ◌∷◌, ◌++◌, length, get_or, map, take, drop, refl, sym, ap, ◌∙◌, append-nil, arith}
use Rattle.std.specs.List.{concat, sum, sum_by}
use Rattle.std.proofs.Math.Seq.{take-add}
use Rattle.std.proofs.lemmas.List.{take_at, take_more, drop_at, length-append, length-drop, length-take, map-append}
use Rattle.std.proofs.lemmas.List.Folds.{concat-append}
use Rattle.std.proofs.lemmas.List.Sums.{sum-map, sum_by-cons, sum_by_more, sum_by_more_le}
use Rattle.nelgvasti.specs.Calls.{HasName, HasNoName}
use Rattle.nelgvasti.specs.Zones.{AreCut}

-- one more message
pub cut_more : (octets lengths : List ℕ) (so_far : List (List ℕ)) (start i : ℕ) (piece : List ℕ) → sum lengths ≡ length octets → i < length lengths → piece ≡ take (start + get_or lengths i 0 - start) (drop start octets)
    → start ≡ sum (take i lengths) → concat so_far ≡ take start octets → map length so_far ≡ take i lengths
    → (start + get_or lengths i 0 ≡ sum (take (i + 1) lengths)) × (concat (so_far ++ piece ∷ []) ≡ take (start + get_or lengths i 0) octets) × (map length (so_far ++ piece ∷ []) ≡ take (i + 1) lengths)
cut_more octets lengths so_far start i piece all within piece-is starts octets-are lengths-are =
    let n = get_or lengths i 0 in
    let size : start + n - start ≡ n = omega arith in
    let found : piece ≡ take n (drop start octets) = piece-is ∙ ap (λ (k : ℕ). take k (drop start octets)) size in
    let fits : start + n ≤ length octets = omega (arith, sum_by_more_le (λ x. x) lengths i 0 within) in
    let long : length piece ≡ n = omega (arith, ap length found, length-take n (drop start octets), length-drop start octets) in (
      omega (arith, sum_by_more (λ x. x) lengths i 0 within),
      concat-append so_far (piece ∷ []) ∙ ap (λ (l : List ℕ). concat so_far ++ l) (append-nil piece ∙ found) ∙ ap (λ (l : List ℕ). l ++ take n (drop start octets)) octets-are ∙ sym (take-add start n octets),
      map-append length so_far (piece ∷ []) ∙ ap (λ (k : ℕ). map length so_far ++ k ∷ []) long ∙ ap (λ (l : List ℕ). l ++ n ∷ []) lengths-are ∙ sym (take_more lengths i 0 within),
    )

-- the lengths of lists add up to the length of all
sum_cut : (ms : List (List ℕ)) → sum_by length ms ≡ length (concat ms)
sum_cut [] = refl
sum_cut (m ∷ ms) = omega (arith, sum_by-cons length m ms, sum_cut ms, length-append m (concat ms))

pub cut_sum : (octets lengths : List ℕ) (ms : List (List ℕ)) → AreCut octets lengths ms → sum lengths ≡ length octets
cut_sum octets lengths ms cut = ap sum (sym cut.lengths_are) ∙ sum-map length ms ∙ sum_cut ms ∙ ap length cut.octets_are

-- octets are cut in one way
one_cut : (ms ns : List (List ℕ)) → map length ms ≡ map length ns → concat ms ≡ concat ns → ms ≡ ns
one_cut [] [] lengths octets = refl
one_cut [] (n ∷ ns) lengths octets = absurd cc
one_cut (m ∷ ms) [] lengths octets = absurd cc
one_cut (m ∷ ms) (n ∷ ns) lengths octets =
    let long : length m ≡ length n = cc in
    let later : map length ms ≡ map length ns = cc in
    let first : m ≡ n = sym (take_at m (concat ms) (length m) refl) ∙ ap (take (length m)) octets ∙ take_at n (concat ns) (length m) (sym long) in
    let rest : concat ms ≡ concat ns = sym (drop_at m (concat ms) (length m) refl) ∙ ap (drop (length m)) octets ∙ drop_at n (concat ns) (length m) (sym long) in
    let more = one_cut ms ns later rest in
    λ i. first i ∷ more i

pub cut_one : (octets lengths : List ℕ) (ms ns : List (List ℕ)) → AreCut octets lengths ms → AreCut octets lengths ns → ms ≡ ns
cut_one octets lengths ms ns cut other = one_cut ms ns (cut.lengths_are ∙ sym other.lengths_are) (cut.octets_are ∙ sym other.octets_are)

-- arguments that suit are not such that do not
pub suited : (bytes : List ℕ) (labels : List (List ℕ)) (octets lengths : List ℕ) → HasName bytes labels → sum lengths ≡ length octets → length lengths < 2 ^ 32
    → HasNoName bytes ⊎ (¬ (sum lengths ≡ length octets) ⊎ (2 ^ 32 ≤ length lengths)) → ⊥
suited bytes labels octets lengths named all few (inl nameless) = nameless labels named.0 named.1
suited bytes labels octets lengths named all few (inr (inl other)) = other all
suited bytes labels octets lengths named all few (inr (inr many)) = omega (arith, few, many)
