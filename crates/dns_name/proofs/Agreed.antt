-- What octets that agree say of names.
use Rattle.std.proofs.Common.{◌≡◌, ◌≤◌, ◌+◌, ℕ, Bool, true, false, List, [], ◌∷◌, ◌++◌, length, get_or, take, drop, reverse, zero, suc, cond, refl, sym, ap, ◌∙◌, arith}
use Rattle.std.specs.Char.{to_ascii_lowercase, eq_ignore_ascii_case}
use Rattle.std.specs.Str.{str_to_ascii_lowercase}
use Rattle.std.proofs.lemmas.Bool.{eq-eqb, eqb-true}
use Rattle.std.proofs.lemmas.List.Sums.{common_prefix_len-le}
use Rattle.std.proofs.lemmas.List.{reverse-append, reverse-reverse, length-reverse, length-map, map-append, append-nil, take_at, take_all}
use Rattle.dns_wire.specs.Agreement.{agreeing_prefix, agreeing_end}

-- ---- octets that agree are the same in lowercase, from the start on

pub low_prefix : (k : ℕ) (xs ys : List ℕ) → k ≤ agreeing_prefix xs ys → str_to_ascii_lowercase (take k xs) ≡ str_to_ascii_lowercase (take k ys)
low_prefix zero xs ys h = refl
low_prefix (suc k) [] ys h = absurd (omega (arith, h))
low_prefix (suc k) (x ∷ xs) [] h = absurd (omega (arith, h))
low_prefix (suc k) (x ∷ xs) (y ∷ ys) h = by (eq_ignore_ascii_case x y) refl h (low_prefix k xs ys) where
  by : (s : Bool) → eq_ignore_ascii_case x y ≡ s → suc k ≤ cond s (1 + agreeing_prefix xs ys) 0 → (k ≤ agreeing_prefix xs ys → str_to_ascii_lowercase (take k xs) ≡ str_to_ascii_lowercase (take k ys)) → str_to_ascii_lowercase (take (suc k) (x ∷ xs)) ≡ str_to_ascii_lowercase (take (suc k) (y ∷ ys))
  by true e h same = rw (eqb-true (to_ascii_lowercase x) (to_ascii_lowercase y) e, same (omega (arith, h))) refl
  by false e h same = absurd (omega (arith, h))

pub agrees_low : (p q xs ys : List ℕ) → str_to_ascii_lowercase p ≡ str_to_ascii_lowercase q → agreeing_prefix (p ++ xs) (q ++ ys) ≡ length p + agreeing_prefix xs ys
agrees_low [] [] xs ys e = omega arith
agrees_low [] (y ∷ q) xs ys e = absurd (omega (arith, ap length e))
agrees_low (x ∷ p) [] xs ys e = absurd (omega (arith, ap length e))
agrees_low (x ∷ p) (y ∷ q) xs ys e =
    ap (λ s. cond s (1 + agreeing_prefix (p ++ xs) (q ++ ys)) 0) (eq-eqb (to_ascii_lowercase x) (to_ascii_lowercase y) (ap (λ l. get_or l 0 0) e))
    ∙ omega (arith, agrees_low p q xs ys (ap (drop 1) e))

pub prefix_whole : (xs ys : List ℕ) → length xs ≡ length ys → agreeing_prefix xs ys ≡ length xs → str_to_ascii_lowercase xs ≡ str_to_ascii_lowercase ys
prefix_whole xs ys long all =
    ap str_to_ascii_lowercase (sym (take_all (length xs) xs (omega arith)))
    ∙ low_prefix (length xs) xs ys (omega (arith, all))
    ∙ ap str_to_ascii_lowercase (take_all (length xs) ys (omega (arith, long)))

pub prefix_all : (xs ys : List ℕ) → str_to_ascii_lowercase xs ≡ str_to_ascii_lowercase ys → agreeing_prefix xs ys ≡ length xs
prefix_all xs ys e =
    ap (λ l. agreeing_prefix l ys) (sym (append-nil xs)) ∙ ap (agreeing_prefix (xs ++ [])) (sym (append-nil ys)) ∙ agrees_low xs ys [] [] e ∙ omega arith

-- ---- from the end on

low_reverse : (xs : List ℕ) → str_to_ascii_lowercase (reverse xs) ≡ reverse (str_to_ascii_lowercase xs)
low_reverse [] = refl
low_reverse (x ∷ xs) =
    ap str_to_ascii_lowercase (reverse-append (x ∷ []) xs)
    ∙ map-append to_ascii_lowercase (reverse xs) (x ∷ [])
    ∙ ap (λ l. l ++ to_ascii_lowercase x ∷ []) (low_reverse xs)
    ∙ sym (reverse-append (to_ascii_lowercase x ∷ []) (str_to_ascii_lowercase xs))

turned : (p q : List ℕ) → str_to_ascii_lowercase (reverse p) ≡ str_to_ascii_lowercase (reverse q) → str_to_ascii_lowercase p ≡ str_to_ascii_lowercase q
turned p q e =
    sym (reverse-reverse (str_to_ascii_lowercase p))
    ∙ ap reverse (sym (low_reverse p) ∙ e ∙ low_reverse q)
    ∙ reverse-reverse (str_to_ascii_lowercase q)

ends_as : (xs ys p q : List ℕ) → agreeing_end (xs ++ p) (ys ++ q) ≡ agreeing_prefix (reverse p ++ reverse xs) (reverse q ++ reverse ys)
ends_as xs ys p q = ap (λ l. agreeing_prefix l (reverse (ys ++ q))) (reverse-append xs p) ∙ ap (agreeing_prefix (reverse p ++ reverse xs)) (reverse-append ys q)

pub low_end : (xs ys p q : List ℕ) → length p ≡ length q → length p ≤ agreeing_end (xs ++ p) (ys ++ q) → str_to_ascii_lowercase p ≡ str_to_ascii_lowercase q
low_end xs ys p q long within =
    turned p q (
    ap str_to_ascii_lowercase (sym (take_at (reverse p) (reverse xs) (length p) (length-reverse p)))
    ∙ low_prefix (length p) (reverse p ++ reverse xs) (reverse q ++ reverse ys) (omega (arith, within, ends_as xs ys p q))
    ∙ ap str_to_ascii_lowercase (take_at (reverse q) (reverse ys) (length p) (length-reverse q ∙ sym long))
    )

pub end_low : (xs ys p q : List ℕ) → str_to_ascii_lowercase p ≡ str_to_ascii_lowercase q → length p ≤ agreeing_end (xs ++ p) (ys ++ q)
end_low xs ys p q e =
    let same : str_to_ascii_lowercase (reverse p) ≡ str_to_ascii_lowercase (reverse q) = low_reverse p ∙ ap reverse e ∙ sym (low_reverse q) in
    omega (arith, ends_as xs ys p q, agrees_low (reverse p) (reverse q) (reverse xs) (reverse ys) same, length-reverse p)

pub end_whole : (xs ys : List ℕ) → length xs ≡ length ys → agreeing_end xs ys ≡ length xs → str_to_ascii_lowercase xs ≡ str_to_ascii_lowercase ys
end_whole xs ys long all = low_end [] [] xs ys long (omega (arith, all))

pub end_all : (xs ys : List ℕ) → str_to_ascii_lowercase xs ≡ str_to_ascii_lowercase ys → agreeing_end xs ys ≡ length xs
end_all xs ys e =
    let same : str_to_ascii_lowercase (reverse xs) ≡ str_to_ascii_lowercase (reverse ys) = low_reverse xs ∙ ap reverse e ∙ sym (low_reverse ys) in
    prefix_all (reverse xs) (reverse ys) same ∙ length-reverse xs

pub low_long : (xs ys : List ℕ) → str_to_ascii_lowercase xs ≡ str_to_ascii_lowercase ys → length xs ≡ length ys
low_long xs ys e = sym (length-map xs to_ascii_lowercase) ∙ ap length e ∙ length-map ys to_ascii_lowercase

pub end_short : (xs ys : List ℕ) → agreeing_end xs ys ≤ length xs
end_short xs ys = omega (arith, common_prefix_len-le eq_ignore_ascii_case (reverse xs) (reverse ys), length-reverse xs)
