-- Trimming from the end.
use Rattle.std.proofs.Common.{◌≡◌, ℕ, ◌+◌, ◌-◌, ◌<◌, ◌≤◌, List, [], ◌∷◌, ◌++◌, true, false, get_or, take, refl, sym, ap, ◌∙◌, arith, length, zero, suc}
use Rattle.std.proofs.lemmas.List.{take_more}
use Rattle.dns_text.specs.Hexadecimal.{trim, trim_cons, is_whitespace}

-- whitespace at the end is left out
trim-blank : (xs : List ℕ) (b : ℕ) → is_whitespace b ≡ true → trim (xs ++ b ∷ []) ≡ trim xs
unfolding trim
trim-blank [] b h = rw h refl
trim-blank (x ∷ xs) b h = ap (trim_cons x) (trim-blank xs b h)

-- another octet at the end ends the text
trim-solid : (xs : List ℕ) (b : ℕ) → is_whitespace b ≡ false → trim (xs ++ b ∷ []) ≡ xs ++ b ∷ []
unfolding trim
trim-solid [] b h = rw h refl
trim-solid (x ∷ []) b h = ap (trim_cons x) (trim-solid [] b h)
trim-solid (x ∷ y ∷ xs) b h = ap (trim_cons x) (trim-solid (y ∷ xs) b h)

-- the prefix before the last octet
prefix : (xs : List ℕ) (e : ℕ) → 0 < e → e ≤ length xs → take e xs ≡ take (e - 1) xs ++ get_or xs (e - 1) 0 ∷ []
prefix xs e h k =
    let one : e - 1 + 1 ≡ e = omega arith in
    let within : e - 1 < length xs = omega arith in
    ap (λ n. take n xs) (sym one) ∙ take_more xs (e - 1) 0 within

pub trim-prefix_blank : (xs : List ℕ) (e : ℕ) → 0 < e → e ≤ length xs → is_whitespace (get_or xs (e - 1) 0) ≡ true
    → trim (take (e - 1) xs) ≡ trim (take e xs)
trim-prefix_blank xs e h k blank = sym (ap trim (prefix xs e h k) ∙ trim-blank _ _ blank)

pub trim-prefix_solid : (xs : List ℕ) (e : ℕ) → 0 < e → e ≤ length xs → is_whitespace (get_or xs (e - 1) 0) ≡ false
    → take e xs ≡ trim (take e xs)
trim-prefix_solid xs e h k solid = sym (ap trim (prefix xs e h k) ∙ trim-solid _ _ solid ∙ sym (prefix xs e h k))

-- nothing of the text is left
pub trim-none : (xs : List ℕ) (e : ℕ) → e ≤ 0 → take e xs ≡ trim (take e xs)
unfolding trim
trim-none xs zero h = refl
trim-none xs (suc e) h = absurd (omega arith)
