-- Words that are numbers.
use Rattle.std.proofs.Common.{◌≡◌, ℕ, ◌<◌, ◌≤◌, ◌^◌, leb, List, Bool, true, false, cond, Option, Some, None, Result, Ok, refl, ap, ◌∙◌, arith}
use Rattle.std.specs.Prelude.{◌&&◌}
use Rattle.std.specs.Fmt.{decimal}
use Rattle.std.specs.Str.{bytes_eq}
use Rattle.std.specs.Str.Parse.{digits_value, ParsesUnsigned}
use Rattle.std.proofs.lemmas.Bool.{and_parts, le-leb, leb-true}
use Rattle.std.proofs.lemmas.Fmt.{decimal_is_IsNumeral, parse-decimal}
use Rattle.std.proofs.lemmas.Slice.Eq.{bytes_eq-Decides}
use Rattle.dns_text.specs.Words.{number_within}

pub number_is : (limit : ℕ) (word : List ℕ) (n : ℕ) → number_within limit word ≡ Some n → (n ≤ limit) × (word ≡ decimal n)
number_is limit word n = by (leb (digits_value 10 word) limit && bytes_eq word (decimal (digits_value 10 word))) refl where
  by : (b : Bool) → (leb (digits_value 10 word) limit && bytes_eq word (decimal (digits_value 10 word))) ≡ b → cond {A = Option ℕ} b (Some (digits_value 10 word)) None ≡ Some n → (n ≤ limit) × (word ≡ decimal n)
  by true is e =
      let value : digits_value 10 word ≡ n = cc in
      let parts = and_parts (leb (digits_value 10 word) limit) (bytes_eq word (decimal (digits_value 10 word))) is in
      (omega (arith, value, leb-true (digits_value 10 word) limit parts.0), (bytes_eq-Decides word (decimal (digits_value 10 word))).0 parts.1 ∙ ap decimal value)
  by false is e = absurd cc

pub number_again : (limit : ℕ) (word : List ℕ) (n : ℕ) → limit < 2 ^ 16 → n ≤ limit → word ≡ decimal n → number_within limit word ≡ Some n
number_again limit word n small few is =
    let value : digits_value 10 word ≡ n = ap (digits_value 10) is ∙ (decimal_is_IsNumeral n (omega (arith, few, small))).1 in
    let same : bytes_eq word (decimal n) ≡ true = (bytes_eq-Decides word (decimal n)).1 is in
    rw (value, le-leb n limit few, same) refl

-- a word that reads as no number is none
pub number_none : {E : Type 0} (limit : ℕ) (word : List ℕ) (r : Result ℕ E) → limit < 2 ^ 16 → ParsesUnsigned 16 10 word r → ((n : ℕ) → r ≡ Ok n → n ≤ limit → word ≡ decimal n → ⊥) → number_within limit word ≡ None
number_none {E} limit word r small parses other = by (number_within limit word) refl where
  by : (o : Option ℕ) → number_within limit word ≡ o → o ≡ None
  by None e = refl
  by (Some n) e =
      let is = number_is limit word n e in
      absurd (other n (parse-decimal 16 n word r (omega (arith, is.0, small)) (omega (arith, is.0, small)) is.1 parses) is.0 is.1)
