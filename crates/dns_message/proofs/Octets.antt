-- Numbers that are octets, in parts of lists and in lowercase.
use Rattle.std.proofs.Common.{ℕ, zero, suc, ◌+◌, ◌/◌, ◌%◌, ◌<◌, inl, inr, List, [], ◌∷◌, ◌++◌, take, drop, arith}
use Rattle.std.specs.Int.{w16, w32, to_be_bytes}
use Rattle.std.specs.Char.{to_ascii_lowercase}
use Rattle.std.specs.Str.{str_to_ascii_lowercase}
use Rattle.std.proofs.lemmas.Bool.{cases_lt}
use Rattle.std.proofs.lemmas.List.{get_or-drop}
use Rattle.std.proofs.lemmas.Str.Ascii.{lowercase_is}
use Rattle.dns_wire.specs.Reading.{AreOctets}
use Rattle.dns_num.proofs.CountedData.{octets_prefix}

pub no_octets : AreOctets []
no_octets i = omega arith

pub one_more : (b : ℕ) (bytes : List ℕ) → b < 256 → AreOctets bytes → AreOctets (b ∷ bytes)
one_more b bytes fits are zero = fits
one_more b bytes fits are (suc i) = are i

pub octets_in_prefix : (xs ys : List ℕ) → AreOctets (xs ++ ys) → AreOctets xs
octets_in_prefix [] ys all i = omega arith
octets_in_prefix (x ∷ xs) ys all zero = all 0
octets_in_prefix (x ∷ xs) ys all (suc i) = octets_in_prefix xs ys (λ k. all (suc k)) i

pub octets_after : (xs ys : List ℕ) → AreOctets (xs ++ ys) → AreOctets ys
octets_after [] ys all = all
octets_after (x ∷ xs) ys all = octets_after xs ys (λ k. all (suc k))

pub octets_of_both : (xs ys : List ℕ) → AreOctets xs → AreOctets ys → AreOctets (xs ++ ys)
octets_of_both [] ys p q k = q k
octets_of_both (x ∷ xs) ys p q zero = p 0
octets_of_both (x ∷ xs) ys p q (suc k) = octets_of_both xs ys (λ j. p (suc j)) q k

pub octets_from : (n : ℕ) (bytes : List ℕ) → AreOctets bytes → AreOctets (drop n bytes)
octets_from n bytes are i = rw (get_or-drop n bytes i 0) (are (n + i))

pub octets_up_to : (n : ℕ) (bytes : List ℕ) → AreOctets bytes → AreOctets (take n bytes)
octets_up_to n bytes are = octets_prefix bytes n are

-- ---- numbers

pub number_octets_2 : (n : ℕ) → AreOctets (to_be_bytes w16 n)
number_octets_2 n = one_more (n / 256 % 256) (n % 256 ∷ []) (omega arith) (one_more (n % 256) [] (omega arith) no_octets)

pub number_octets_4 : (n : ℕ) → AreOctets (to_be_bytes w32 n)
number_octets_4 n =
    one_more (n / 16777216 % 256) (n / 65536 % 256 ∷ n / 256 % 256 ∷ n % 256 ∷ []) (omega arith)
    (one_more (n / 65536 % 256) (n / 256 % 256 ∷ n % 256 ∷ []) (omega arith)
    (one_more (n / 256 % 256) (n % 256 ∷ []) (omega arith) (one_more (n % 256) [] (omega arith) no_octets)))

-- ---- lowercase letters

letter_fits : (b : ℕ) → b < 256 → to_ascii_lowercase b < 256
letter_fits b fits = elim (cases_lt b 65) [
  | inl low ↦ omega (arith, (lowercase_is b).1 low)
  | inr high ↦ elim (cases_lt 90 b) [ inl over ↦ omega (arith, (lowercase_is b).2 over) | inr letter ↦ omega (arith, (lowercase_is b).0 (high, letter)) ]
]

pub octets_lowered : (bytes : List ℕ) → AreOctets bytes → AreOctets (str_to_ascii_lowercase bytes)
octets_lowered [] are i = omega arith
octets_lowered (b ∷ bytes) are zero = letter_fits b (are 0)
octets_lowered (b ∷ bytes) are (suc i) = octets_lowered bytes (λ k. are (suc k)) i
