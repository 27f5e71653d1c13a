-- How far two lists of octets agree.
use lib.Count.{count_trailing_zeros}
use Rattle.std.proofs.Common.{nat_eq, get_or, w8, Fits, zero, min, replicate, length-take-le, length-drop, take_all, ◌≡◌, ◌≤◌, ◌+◌, ◌-◌, ◌<◌, ◌%◌, ◌⊎◌, ℕ, Bool, true, false, List, [], ◌∷◌, ◌++◌, length, take, drop, map, reverse, suc, not, cond, eqb, refl, sym, ap, ◌∙◌, arith, inl, inr, nat_cmp}
use Rattle.std.specs.Char.{to_ascii_lowercase, eq_ignore_ascii_case}
use Rattle.std.specs.Cmp.Lexicographic.{slice_cmp}
use Rattle.std.specs.List.{prefix_len}
use Rattle.std.specs.Str.{str_to_ascii_lowercase}
use Rattle.std.specs.Simd.Lanes.{zip2, mask_l, top}
use lib.Lanes.{sel_l, Each1}
use Rattle.std.specs.Ordering.{ordering_then}
use Rattle.std.specs.declared.cmp.Ordering.{Ordering}
use Rattle.std.specs.declared.cmp.Ordering.TheVariants.{Less, Equal, Greater}
use Rattle.std.proofs.lemmas.Bool.{agree_below, eq-eqb, ne_eqb, eqb-true, eqb-false, cases_order}
use Rattle.std.proofs.lemmas.Bool.Decides.{nat_tests}
use Rattle.std.proofs.lemmas.List.{get_or-reverse, get_or-take, reverse-append, reverse-reverse, map-append, length-map, length-reverse, append_assoc, take_at, drop_at, take-append-drop, map-id}
use Rattle.std.proofs.lemmas.List.Sums.{common_prefix_len-drop_no}
use Rattle.std.proofs.lemmas.Slice.Eq.{bytes_eq-Decides}
use Rattle.std.specs.Cmp.Lexicographic.{pointwise}
use Rattle.std.proofs.lemmas.Simd.{below_from_Fits, tops_compared, mask_l-mod, first_set_mask_l, length-zip2, zip2_splat, map-map}
use Rattle.dns_wire.proofs.Lanes.{at_each, chosen}
use Rattle.dns_wire.specs.Agreement.{agreeing_prefix, agreeing_end, EndAlike}

-- ---- octets that are equal are passed over

letter_same : (x : ℕ) → eq_ignore_ascii_case x x ≡ true
letter_same x = eq-eqb (to_ascii_lowercase x) (to_ascii_lowercase x) refl

prefix_same : (p xs ys : List ℕ) → agreeing_prefix (p ++ xs) (p ++ ys) ≡ length p + agreeing_prefix xs ys
prefix_same [] xs ys = omega arith
prefix_same (x ∷ p) xs ys = ap (λ s. cond s (1 + agreeing_prefix (p ++ xs) (p ++ ys)) 0) (letter_same x) ∙ omega (arith, prefix_same p xs ys)

end_same : (xs ys p : List ℕ) → agreeing_end (xs ++ p) (ys ++ p) ≡ length p + agreeing_end xs ys
end_same xs ys p =
    ap (λ l. agreeing_prefix l (reverse (ys ++ p))) (reverse-append xs p)
    ∙ ap (agreeing_prefix (reverse p ++ reverse xs)) (reverse-append ys p)
    ∙ prefix_same (reverse p) (reverse xs) (reverse ys)
    ∙ ap (λ k. k + agreeing_end xs ys) (length-reverse p)

pub end_from : (m n : ℕ) (xs ys : List ℕ) → m ≤ length xs → drop m xs ≡ drop n ys → agreeing_end xs ys ≡ (length xs - m) + agreeing_end (take m xs) (take n ys)
end_from m n xs ys within same =
    ap (λ l. agreeing_end l ys) (sym (take-append-drop m xs))
    ∙ ap (λ l. agreeing_end (take m xs ++ drop m xs) l) (sym (take-append-drop n ys) ∙ ap (λ l. take n ys ++ l) (sym same))
    ∙ end_same (take m xs) (take n ys) (drop m xs)
    ∙ ap (λ k. k + agreeing_end (take m xs) (take n ys)) (length-drop m xs)

-- ---- sixteen octets at once

abbrev differ : ℕ → ℕ → Bool
differ a b = not (eqb a b)

-- the mask of the lanes that differ
abbrev pub differing : List ℕ → List ℕ → ℕ
differing xs ys = mask_l (map (top 7) (zip2 (λ a b. cond (differ a b) 255 0) xs ys)) % 18446744073709551616

mask_differing : (xs ys : List ℕ) → length xs ≡ 16 → length ys ≡ 16 → differing xs ys ≡ mask_l (map (λ b. b) (zip2 differ xs ys))
mask_differing xs ys long short =
    ap (λ ms. mask_l ms % 18446744073709551616) (tops_compared w8 differ xs ys ∙ sym (map-id (zip2 differ xs ys)))
    ∙ mask_l-mod (map (λ b. b) (zip2 differ xs ys)) 64 (omega (arith, length-map (zip2 differ xs ys) (λ b. b), length-zip2 differ xs ys (long ∙ sym short), long))

-- how many lanes are before the first that differ
abbrev lanes : List ℕ → List ℕ → ℕ
lanes xs ys = prefix_len (λ (x : Bool). not x) (zip2 differ xs ys)

counted : (xs ys : List ℕ) → length xs ≡ 16 → length ys ≡ 16 → cond (eqb (differing xs ys) 0) 16 (count_trailing_zeros 64 (differing xs ys)) ≡ lanes xs ys
counted xs ys long short =
    ap (λ m. cond (eqb m 0) 16 (count_trailing_zeros 64 m)) (mask_differing xs ys long short)
    ∙ first_set_mask_l (λ (b : Bool). b) (zip2 differ xs ys) 16 (length-zip2 differ xs ys (long ∙ sym short) ∙ long) (omega arith)

not_twice : (b : Bool) → not (not b) ≡ b
not_twice true = refl
not_twice false = refl

-- the lanes of octets in lowercase that are the same are the octets that agree
lowercase_lanes : (xs ys : List ℕ) → lanes (str_to_ascii_lowercase xs) (str_to_ascii_lowercase ys) ≡ agreeing_prefix xs ys
lowercase_lanes [] ys = empty ys where
  empty : (ys : List ℕ) → lanes [] (str_to_ascii_lowercase ys) ≡ agreeing_prefix [] ys
  empty [] = refl
  empty (y ∷ ys) = refl
lowercase_lanes (x ∷ xs) [] = refl
lowercase_lanes (x ∷ xs) (y ∷ ys) =
    ap (λ b. cond b (1 + lanes (str_to_ascii_lowercase xs) (str_to_ascii_lowercase ys)) 0) (not_twice (eq_ignore_ascii_case x y))
    ∙ ap (λ n. cond (eq_ignore_ascii_case x y) (1 + n) 0) (lowercase_lanes xs ys)

low_long : (xs : List ℕ) → length xs ≡ 16 → length (str_to_ascii_lowercase xs) ≡ 16
low_long xs long = length-map xs to_ascii_lowercase ∙ long

-- if no lane of octets in lowercase differs, all agree
pub none_differ : (xs ys : List ℕ) → length xs ≡ 16 → length ys ≡ 16 → differing (str_to_ascii_lowercase xs) (str_to_ascii_lowercase ys) ≡ 0 → 16 ≡ agreeing_prefix xs ys
none_differ xs ys long short none =
    sym (ap (λ s. cond s 16 (count_trailing_zeros 64 (differing (str_to_ascii_lowercase xs) (str_to_ascii_lowercase ys)))) (eq-eqb _ 0 none))
    ∙ counted (str_to_ascii_lowercase xs) (str_to_ascii_lowercase ys) (low_long xs long) (low_long ys short) ∙ lowercase_lanes xs ys

-- those before the first lane that differs
pub some_differ : (xs ys : List ℕ) → length xs ≡ 16 → length ys ≡ 16 → (differing (str_to_ascii_lowercase xs) (str_to_ascii_lowercase ys) ≡ 0 → ⊥) → count_trailing_zeros 64 (differing (str_to_ascii_lowercase xs) (str_to_ascii_lowercase ys)) ≡ agreeing_prefix xs ys
some_differ xs ys long short some =
    sym (ap (λ s. cond s 16 (count_trailing_zeros 64 (differing (str_to_ascii_lowercase xs) (str_to_ascii_lowercase ys)))) (ne_eqb _ 0 some))
    ∙ counted (str_to_ascii_lowercase xs) (str_to_ascii_lowercase ys) (low_long xs long) (low_long ys short) ∙ lowercase_lanes xs ys

whole_prefix : (xs : List ℕ) → agreeing_prefix xs xs ≡ length xs
whole_prefix [] = refl
whole_prefix (x ∷ xs) = ap (λ s. cond s (1 + agreeing_prefix xs xs) 0) (letter_same x) ∙ omega (arith, whole_prefix xs)

-- if no lane of the octets as they are differs, all agree
pub all_same : (xs ys : List ℕ) → length xs ≡ 16 → length ys ≡ 16 → differing xs ys ≡ 0 → 16 ≡ agreeing_prefix xs ys
all_same xs ys long short none =
    let all : lanes xs ys ≡ 16 = sym (counted xs ys long short) ∙ ap (λ s. cond s 16 (count_trailing_zeros 64 (differing xs ys))) (eq-eqb (differing xs ys) 0 none) in
    sym long ∙ sym (whole_prefix xs) ∙ ap (agreeing_prefix xs) (sym (take_all 16 xs (omega (arith, long))) ∙ ap (λ n. take n xs) (sym all) ∙ same_lanes xs ys ∙ ap (λ n. take n ys) all ∙ take_all 16 ys (omega (arith, short)))
  where
    same_lanes : (xs ys : List ℕ) → take (lanes xs ys) xs ≡ take (lanes xs ys) ys
    same_lanes [] [] = refl
    same_lanes [] (y ∷ ys) = refl
    same_lanes (x ∷ xs) [] = refl
    same_lanes (x ∷ xs) (y ∷ ys) = step (eqb x y) refl (same_lanes xs ys) where
      step : (s : Bool) → eqb x y ≡ s → take (lanes xs ys) xs ≡ take (lanes xs ys) ys → take (cond (not (not s)) (1 + lanes xs ys) 0) (x ∷ xs) ≡ take (cond (not (not s)) (1 + lanes xs ys) 0) (y ∷ ys)
      step true e same =
          let more : 1 + lanes xs ys ≡ suc (lanes xs ys) = omega arith in
          rw (more, eqb-true x y e, same) refl
      step false e same = refl

-- ---- sixteen octets in lowercase

pub lowercase_chosen : (less sub add : ℕ → ℕ → ℕ) (xs : List ℕ) → length xs ≡ 16 → Each1 (Fits w8) xs → agree_below (λ x. eqb (cond (top 7 (less (sub x 65) 26)) (add x 32) x) (to_ascii_lowercase x)) (λ _. true) 256 ≡ true
    → sel_l (map (top 7) (zip2 less (zip2 sub xs (replicate 16 65)) (replicate 16 26))) (zip2 add xs (replicate 16 32)) xs ≡ str_to_ascii_lowercase xs
lowercase_chosen less sub add xs long fits all =
    let from_a = zip2_splat sub xs 16 65 long in
    let capital = ap (λ l. zip2 less l (replicate 16 26)) from_a ∙ zip2_splat less (map (λ x. sub x 65) xs) 16 26 (length-map xs (λ x. sub x 65) ∙ long) ∙ map-map (λ x. less x 26) (λ x. sub x 65) xs in
    chosen (λ x. less (sub x 65) 26) (λ x. add x 32) (λ x. x) xs capital (zip2_splat add xs 16 32 long) (sym (map-id xs))
    ∙ at_each (λ x. cond (top 7 (less (sub x 65) 26)) (add x 32) x) to_ascii_lowercase 256 all xs (below_from_Fits w8 xs fits)

-- ---- one block after another

pub block_of : (at : ℕ) (xs : List ℕ) → at + 16 ≤ length xs → length (take 16 (drop at xs)) ≡ 16
block_of at xs within = length-take-le 16 (drop at xs) (omega (arith, length-drop at xs))

-- a block agrees as far as the octets from there on do, and no farther than it reaches
pub block_agrees : (k : ℕ) (xs ys : List ℕ) → agreeing_prefix (take k xs) (take k ys) ≡ min k (agreeing_prefix xs ys)
block_agrees zero xs ys = omega arith
block_agrees (suc k) [] ys = none ys where
  none : (ys : List ℕ) → agreeing_prefix [] (take (suc k) ys) ≡ min (suc k) (agreeing_prefix [] ys)
  none [] = omega arith
  none (y ∷ ys) = omega arith
block_agrees (suc k) (x ∷ xs) [] = omega arith
block_agrees (suc k) (x ∷ xs) (y ∷ ys) = step (eq_ignore_ascii_case x y) (block_agrees k xs ys) where
  step : (s : Bool) → agreeing_prefix (take k xs) (take k ys) ≡ min k (agreeing_prefix xs ys) → cond s (1 + agreeing_prefix (take k xs) (take k ys)) 0 ≡ min (suc k) (cond s (1 + agreeing_prefix xs ys) 0)
  step true e = ap (λ n. 1 + n) e ∙ omega arith
  step false e = omega arith

pub agrees_from : (n : ℕ) (xs ys : List ℕ) → n ≤ agreeing_prefix xs ys → agreeing_prefix xs ys ≡ n + agreeing_prefix (drop n xs) (drop n ys)
agrees_from zero xs ys within = omega arith
agrees_from (suc n) [] ys within = absurd (past ys within) where
  past : (ys : List ℕ) → suc n ≤ agreeing_prefix [] ys → ⊥
  past [] h = omega (arith, h)
  past (y ∷ ys) h = omega (arith, h)
agrees_from (suc n) (x ∷ xs) [] within = absurd (omega (arith, within))
agrees_from (suc n) (x ∷ xs) (y ∷ ys) within = step (eq_ignore_ascii_case x y) within (agrees_from n xs ys) where
  step : (s : Bool) → suc n ≤ cond s (1 + agreeing_prefix xs ys) 0 → (n ≤ agreeing_prefix xs ys → agreeing_prefix xs ys ≡ n + agreeing_prefix (drop n xs) (drop n ys)) → cond s (1 + agreeing_prefix xs ys) 0 ≡ suc n + agreeing_prefix (drop n xs) (drop n ys)
  step true h rest = let less : n ≤ agreeing_prefix xs ys = omega (arith, h) in omega (arith, rest less)
  step false h rest = absurd (omega (arith, h))

-- no more octets agree than either has
pub agreed_most : (xs ys : List ℕ) → agreeing_prefix xs ys ≤ min (length xs) (length ys)
agreed_most [] ys = none ys where
  none : (ys : List ℕ) → agreeing_prefix [] ys ≤ min 0 (length ys)
  none [] = omega arith
  none (y ∷ ys) = omega arith
agreed_most (x ∷ xs) [] = omega arith
agreed_most (x ∷ xs) (y ∷ ys) = step (eq_ignore_ascii_case x y) (agreed_most xs ys) where
  step : (s : Bool) → agreeing_prefix xs ys ≤ min (length xs) (length ys) → cond s (1 + agreeing_prefix xs ys) 0 ≤ min (length (x ∷ xs)) (length (y ∷ ys))
  step true h = omega (arith, h)
  step false h = omega arith

-- ---- eight octets at once, from the last back

split_back : (a left prefix x : List ℕ) → take (length left) a ≡ left → left ≡ prefix ++ x → a ≡ prefix ++ (x ++ drop (length left) a)
split_back a left prefix x e split = sym (take-append-drop (length left) a) ∙ ap (λ l. l ++ drop (length left) a) (e ∙ split) ∙ append_assoc prefix x (drop (length left) a)

prefix_left : (a prefix rest : List ℕ) → a ≡ prefix ++ rest → (drop (length prefix) a ≡ rest) × (take (length prefix) a ≡ prefix)
prefix_left a prefix rest e = (ap (drop (length prefix)) e ∙ drop_at prefix rest (length prefix) refl, ap (take (length prefix)) e ∙ take_at prefix rest (length prefix) refl)

pub back_left : (a left prefix x : List ℕ) → take (length left) a ≡ left → left ≡ prefix ++ x → (drop (length prefix) a ≡ x ++ drop (length left) a) × (take (length prefix) a ≡ prefix)
back_left a left prefix x e split = prefix_left a prefix (x ++ drop (length left) a) (split_back a left prefix x e split)

pub cut_back : (left prefix x : List ℕ) (at : ℕ) → prefix ≡ take at left → x ≡ drop at left → left ≡ prefix ++ x
cut_back left prefix x at e d = sym (take-append-drop at left) ∙ ap (λ l. l ++ drop at left) (sym e) ∙ ap (λ l. prefix ++ l) (sym d)

pub equal_chunks : (xs ys : List ℕ) → false ≡ not (pointwise nat_eq xs ys) → xs ≡ ys
equal_chunks xs ys e = (bytes_eq-Decides xs ys).0 (is (pointwise nat_eq xs ys) e) where
  is : (s : Bool) → false ≡ not s → s ≡ true
  is true e = refl
  is false e = e

-- ---- where it ends

pub end_left : (xs ys : List ℕ) (m : ℕ) → m ≡ 0 → agreeing_end (take m xs) ys ≡ 0
end_left xs ys m e = ap (λ k. agreeing_end (take k xs) ys) e

pub end_right : (xs ys : List ℕ) (n : ℕ) → n ≡ 0 → agreeing_end xs (take n ys) ≡ 0
end_right xs ys n e = ap (λ k. agreeing_end xs (take k ys)) e ∙ none (reverse xs) where
  none : (l : List ℕ) → agreeing_prefix l [] ≡ 0
  none [] = refl
  none (x ∷ l) = refl

last_of : (m : ℕ) (xs : List ℕ) → 0 < m → m ≤ length xs → get_or (reverse (take m xs)) 0 0 ≡ get_or xs (m - 1) 0
last_of m xs some within =
    let long : length (take m xs) ≡ m = length-take-le m xs within in
    let at : length (take m xs) - 1 - 0 ≡ m - 1 = omega (arith, long) in
    get_or-reverse (take m xs) 0 0 (omega (arith, long, some)) ∙ ap (λ k. get_or (take m xs) k 0) at ∙ get_or-take m xs (m - 1) 0 (omega (arith, some))

pub end_differs : (m n : ℕ) (xs ys : List ℕ) → 0 < m → m ≤ length xs → 0 < n → n ≤ length ys → eq_ignore_ascii_case (get_or xs (m - 1) 0) (get_or ys (n - 1) 0) ≡ false → agreeing_end (take m xs) (take n ys) ≡ 0
end_differs m n xs ys some within more fits differ =
    common_prefix_len-drop_no eq_ignore_ascii_case (reverse (take m xs)) (reverse (take n ys)) 0 0 0 (omega (arith, some, length-reverse (take m xs), length-take-le m xs within)) (omega (arith, more, length-reverse (take n ys), length-take-le n ys fits))
    (ap (λ k. eq_ignore_ascii_case k (get_or (reverse (take n ys)) 0 0)) (last_of m xs some within) ∙ ap (eq_ignore_ascii_case (get_or xs (m - 1) 0)) (last_of n ys more fits) ∙ differ)

pub prefix_ended : (at : ℕ) (xs ys : List ℕ) → at ≤ length xs → length ys ≤ at → agreeing_prefix (drop at xs) (drop at ys) ≡ 0
prefix_ended at xs ys within past = none (drop at xs) (drop at ys) (omega (arith, length-drop at ys, past)) where
  none : (l k : List ℕ) → length k ≡ 0 → agreeing_prefix l k ≡ 0
  none [] k e = refl
  none (x ∷ l) [] e = refl
  none (x ∷ l) (y ∷ k) e = absurd (omega (arith, e))

-- ---- the order is decided where they cease to agree

equal_then : (a b : ℕ) (rest : Ordering) → a ≡ b → ordering_then (nat_cmp a b) rest ≡ rest
equal_then a b rest e = ap (λ o. ordering_then o rest) (tie a b e) where
  tie : (a b : ℕ) → a ≡ b → nat_cmp a b ≡ Equal
  tie a b e = grind (arith, nat_tests)

differ_then : (a b : ℕ) (rest : Ordering) → (a ≡ b → ⊥) → ordering_then (nat_cmp a b) rest ≡ nat_cmp a b
differ_then a b rest ne = elim (cases_order a b) [ inl e ↦ absurd (ne e) | inr (inl l) ↦ step Less refl (less a b l) | inr (inr g) ↦ step Greater refl (greater a b g) ] where
  less : (a b : ℕ) → a < b → nat_cmp a b ≡ Less
  less a b l = grind (arith, nat_tests)

  greater : (a b : ℕ) → b < a → nat_cmp a b ≡ Greater
  greater a b g = grind (arith, nat_tests)

  step : (o : Ordering) → ordering_then o rest ≡ o → nat_cmp a b ≡ o → ordering_then (nat_cmp a b) rest ≡ nat_cmp a b
  step o d e = ap (λ t. ordering_then t rest) e ∙ d ∙ sym e

pub decided : (xs ys : List ℕ) (at : ℕ) → at ≡ agreeing_prefix xs ys → at < length xs → at < length ys → slice_cmp nat_cmp (str_to_ascii_lowercase xs) (str_to_ascii_lowercase ys) ≡ nat_cmp (to_ascii_lowercase (get_or xs at 0)) (to_ascii_lowercase (get_or ys at 0))
decided [] ys at e l r = absurd (omega (arith, l))
decided (x ∷ xs) [] at e l r = absurd (omega (arith, r))
decided (x ∷ xs) (y ∷ ys) at e l r = by (eq_ignore_ascii_case x y) refl (decided xs ys) e where
  by : (s : Bool) → eq_ignore_ascii_case x y ≡ s → ((at : ℕ) → at ≡ agreeing_prefix xs ys → at < length xs → at < length ys → slice_cmp nat_cmp (str_to_ascii_lowercase xs) (str_to_ascii_lowercase ys) ≡ nat_cmp (to_ascii_lowercase (get_or xs at 0)) (to_ascii_lowercase (get_or ys at 0))) → at ≡ cond s (1 + agreeing_prefix xs ys) 0 → slice_cmp nat_cmp (str_to_ascii_lowercase (x ∷ xs)) (str_to_ascii_lowercase (y ∷ ys)) ≡ nat_cmp (to_ascii_lowercase (get_or (x ∷ xs) at 0)) (to_ascii_lowercase (get_or (y ∷ ys) at 0))
  by true same ih d =
      let next : at ≡ suc (agreeing_prefix xs ys) = omega (arith, d) in
      equal_then (to_ascii_lowercase x) (to_ascii_lowercase y) _ (eqb-true _ _ same)
      ∙ ih (agreeing_prefix xs ys) refl (omega (arith, l, next)) (omega (arith, r, next))
      ∙ ap (λ k. nat_cmp (to_ascii_lowercase (get_or (x ∷ xs) k 0)) (to_ascii_lowercase (get_or (y ∷ ys) k 0))) (sym next)
  by false other ih d =
      differ_then (to_ascii_lowercase x) (to_ascii_lowercase y) _ (eqb-false _ _ other)
      ∙ ap (λ k. nat_cmp (to_ascii_lowercase (get_or (x ∷ xs) k 0)) (to_ascii_lowercase (get_or (y ∷ ys) k 0))) (sym d)

same_less : (n m : ℕ) → nat_cmp n m ≡ nat_cmp (suc n) (suc m)
same_less n m = grind (arith, nat_tests)

pub undecided : (xs ys : List ℕ) (at : ℕ) → at ≡ agreeing_prefix xs ys → (length xs ≤ at) ⊎ (length ys ≤ at) → slice_cmp nat_cmp (str_to_ascii_lowercase xs) (str_to_ascii_lowercase ys) ≡ nat_cmp (length xs) (length ys)
undecided [] [] at e past = refl
undecided [] (y ∷ ys) at e past = sym (below 0 (length (y ∷ ys)) (omega arith)) where
  below : (n m : ℕ) → n < m → nat_cmp n m ≡ Less
  below n m h = grind (arith, nat_tests)
undecided (x ∷ xs) [] at e past = sym (above 0 (length (x ∷ xs)) (omega arith)) where
  above : (n m : ℕ) → n < m → nat_cmp m n ≡ Greater
  above n m h = grind (arith, nat_tests)
undecided (x ∷ xs) (y ∷ ys) at e past = by (eq_ignore_ascii_case x y) refl (undecided xs ys) e where
  by : (s : Bool) → eq_ignore_ascii_case x y ≡ s → ((at : ℕ) → at ≡ agreeing_prefix xs ys → (length xs ≤ at) ⊎ (length ys ≤ at) → slice_cmp nat_cmp (str_to_ascii_lowercase xs) (str_to_ascii_lowercase ys) ≡ nat_cmp (length xs) (length ys)) → at ≡ cond s (1 + agreeing_prefix xs ys) 0 → slice_cmp nat_cmp (str_to_ascii_lowercase (x ∷ xs)) (str_to_ascii_lowercase (y ∷ ys)) ≡ nat_cmp (length (x ∷ xs)) (length (y ∷ ys))
  by true same ih d =
      equal_then (to_ascii_lowercase x) (to_ascii_lowercase y) _ (eqb-true _ _ same)
      ∙ ih (agreeing_prefix xs ys) refl (elim past [ inl p ↦ inl (omega (arith, p, d)) | inr p ↦ inr (omega (arith, p, d)) ])
      ∙ same_less (length xs) (length ys)
  by false other ih d = absurd (elim past [ inl p ↦ some xs (omega (arith, p, d)) | inr p ↦ some ys (omega (arith, p, d)) ]) where
    some : (l : List ℕ) → 1 + length l ≤ 0 → ⊥
    some l h = omega (arith, h)

-- ---- the octets that agree, in words

abbrev low : List ℕ → List ℕ
low = str_to_ascii_lowercase

prefix_step : (x y : ℕ) (xs ys : List ℕ) (b : Bool) → eq_ignore_ascii_case x y ≡ b → agreeing_prefix (x ∷ xs) (y ∷ ys) ≡ cond b (1 + agreeing_prefix xs ys) 0
prefix_step x y xs ys b e = ap (λ (s : Bool). cond s (1 + agreeing_prefix xs ys) 0) e

low_prefix : (xs ys : List ℕ) → (agreeing_prefix xs ys ≤ length xs) × (low (take (agreeing_prefix xs ys) xs) ≡ low (take (agreeing_prefix xs ys) ys))
low_prefix [] ys = (omega arith, nothing ys) where
  nothing : (ys : List ℕ) → low (take (agreeing_prefix [] ys) []) ≡ low (take (agreeing_prefix [] ys) ys)
  nothing [] = refl
  nothing (y ∷ ys) = refl
low_prefix (x ∷ xs) [] = (omega arith, refl)
low_prefix (x ∷ xs) (y ∷ ys) = by (eq_ignore_ascii_case x y) refl (low_prefix xs ys) where
  by : (b : Bool) → eq_ignore_ascii_case x y ≡ b → (agreeing_prefix xs ys ≤ length xs) × (low (take (agreeing_prefix xs ys) xs) ≡ low (take (agreeing_prefix xs ys) ys)) → (agreeing_prefix (x ∷ xs) (y ∷ ys) ≤ length (x ∷ xs)) × (low (take (agreeing_prefix (x ∷ xs) (y ∷ ys)) (x ∷ xs)) ≡ low (take (agreeing_prefix (x ∷ xs) (y ∷ ys)) (y ∷ ys)))
  by false e later = let none = prefix_step x y xs ys false e in (omega (arith, none), ap (λ (n : ℕ). low (take n (x ∷ xs))) none ∙ sym (ap (λ (n : ℕ). low (take n (y ∷ ys))) none))
  by true e later =
      let more : agreeing_prefix (x ∷ xs) (y ∷ ys) ≡ suc (agreeing_prefix xs ys) = prefix_step x y xs ys true e ∙ omega arith in (
        omega (arith, more, later.0),
        ap (λ (n : ℕ). low (take n (x ∷ xs))) more
            ∙ ap (λ (l : List ℕ). to_ascii_lowercase x ∷ l) later.1
            ∙ ap (λ (o : ℕ). o ∷ low (take (agreeing_prefix xs ys) ys)) (eqb-true (to_ascii_lowercase x) (to_ascii_lowercase y) e)
            ∙ sym (ap (λ (n : ℕ). low (take n (y ∷ ys))) more),
      )

no_longer : (p q xs ys : List ℕ) → low p ≡ low q → length p ≤ agreeing_prefix (p ++ xs) (q ++ ys)
no_longer [] q xs ys e = omega arith
no_longer (x ∷ p) [] xs ys e = absurd (omega (arith, ap length e))
no_longer (x ∷ p) (y ∷ q) xs ys e =
    let first : to_ascii_lowercase x ≡ to_ascii_lowercase y = cc in
    let others : low p ≡ low q = cc in
    omega (arith, prefix_step x y (p ++ xs) (q ++ ys) true (eq-eqb (to_ascii_lowercase x) (to_ascii_lowercase y) first), no_longer p q xs ys others)

low_back : (xs : List ℕ) → low (reverse xs) ≡ reverse (low xs)
low_back [] = refl
low_back (x ∷ xs) =
    ap low (reverse-append (x ∷ []) xs) ∙ map-append to_ascii_lowercase (reverse xs) (x ∷ [])
    ∙ ap (λ (l : List ℕ). l ++ to_ascii_lowercase x ∷ []) (low_back xs) ∙ sym (reverse-append (to_ascii_lowercase x ∷ []) (low xs))

turned_parts : (xs : List ℕ) (n : ℕ) → xs ≡ reverse (drop n (reverse xs)) ++ reverse (take n (reverse xs))
turned_parts xs n =
    sym (reverse-reverse xs) ∙ ap reverse (sym (take-append-drop n (reverse xs))) ∙ reverse-append (take n (reverse xs)) (drop n (reverse xs))

pub end_common : (xs ys : List ℕ) → EndAlike xs ys (agreeing_end xs ys)
end_common xs ys =
    let n : ℕ = agreeing_end xs ys in
    let l = low_prefix (reverse xs) (reverse ys) in
    record {
      before = reverse (drop n (reverse xs));
      before_other = reverse (drop n (reverse ys));
      end = reverse (take n (reverse xs));
      other = reverse (take n (reverse ys));
      first_is = turned_parts xs n;
      second_is = turned_parts ys n;
      long = length-reverse (take n (reverse xs)) ∙ length-take-le n (reverse xs) l.0;
      alike = low_back (take n (reverse xs)) ∙ ap reverse l.1 ∙ sym (low_back (take n (reverse ys)));
    }

pub end_longest : (xs ys : List ℕ) (count : ℕ) → EndAlike xs ys count → count ≤ agreeing_end xs ys
end_longest xs ys count a =
    let first : reverse xs ≡ reverse a.end ++ reverse a.before = ap reverse a.first_is ∙ reverse-append a.before a.end in
    let second : reverse ys ≡ reverse a.other ++ reverse a.before_other = ap reverse a.second_is ∙ reverse-append a.before_other a.other in
    let same : low (reverse a.end) ≡ low (reverse a.other) = low_back a.end ∙ ap reverse a.alike ∙ sym (low_back a.other) in
    let long : length (reverse a.end) ≤ agreeing_prefix (reverse a.end ++ reverse a.before) (reverse a.other ++ reverse a.before_other) = no_longer (reverse a.end) (reverse a.other) (reverse a.before) (reverse a.before_other) same in
    omega (arith, a.long, length-reverse a.end, long, ap (λ (l : List ℕ). agreeing_prefix l (reverse ys)) first, ap (λ (l : List ℕ). agreeing_prefix (reverse a.end ++ reverse a.before) l) second)
