-- Hexadecimal text is read back.
use Rattle.std.proofs.Common.{◌≡◌, ℕ, zero, suc, ◌+◌, ◌-◌, ◌*◌, ◌/◌, ◌%◌, ◌<◌, ◌==◌, Bool, true, false, cond, ◌&&◌, subst, inl, inr, List, [], ◌∷◌, slice_index, Option, Some, None, unwrap_or, refl, sym, ap, ◌∙◌, arith, codes, flat_map}
use Rattle.std.specs.Prelude.{◌↔◌, ◌||◌, nat_le}
use Rattle.std.proofs.lemmas.Bool.{agree_below_at, and_parts, cases_lt, eqb-true}
use Rattle.std.proofs.lemmas.Bool.Decides.{nat_tests}
use Rattle.std.proofs.lemmas.List.Concat.{flat_map-cons}
use Rattle.dns_text.specs.Hexadecimal.{ArePairs, IsDigit, digit_value, pair_before, spelled, shown}
use Rattle.dns_wire.specs.Reading.{AreOctets}

-- ---- the sixteen digits

abbrev digit_of : ℕ → ℕ
digit_of n = slice_index (codes "0123456789abcdef") n

-- the digit of a value reads as that value, as a test that computes
abbrev reads_back : ℕ → Bool
reads_back n = unwrap_or (digit_value (digit_of n)) 99 == n

abbrev all_read_back : ℕ → Bool
all_read_back zero = true
all_read_back (suc n) = reads_back n && all_read_back n

one_reads_back : (n k : ℕ) → all_read_back n ≡ true → k < n → reads_back k ≡ true
one_reads_back zero k h lt = absurd (omega arith)
one_reads_back (suc n) k h lt =
    let parts = and_parts (reads_back n) (all_read_back n) h in
    elim (cases_lt k n) [
      | inl below ↦ one_reads_back n k parts.1 below
      | inr top ↦ let e : k ≡ n = omega arith in rw e parts.0
    ]

some_from_unwrap : (o : Option ℕ) (n : ℕ) → n < 16 → unwrap_or o 99 ≡ n → o ≡ Some n
some_from_unwrap (Some v) n lt e = ap Some e
some_from_unwrap None n lt e = absurd (omega arith)

digit_back : (n : ℕ) → n < 16 → digit_value (digit_of n) ≡ Some n
digit_back n lt = some_from_unwrap (digit_value (digit_of n)) n lt (eqb-true (unwrap_or (digit_value (digit_of n)) 99) n (one_reads_back 16 n refl lt))

-- ---- octets

pub spelled-shown : (octets : List ℕ) → AreOctets octets → spelled (flat_map shown octets) ≡ Some octets
unfolding spelled
spelled-shown [] h = refl
spelled-shown (b ∷ rest) h =
    let fits : b < 256 = h 0 in
    let high = digit_back (b / 16) (omega arith) in
    let low = digit_back (b % 16) (omega arith) in
    let whole : b / 16 * 16 + b % 16 ≡ b = omega arith in
    let later = spelled-shown rest (λ i. h (suc i)) in
    ap spelled (flat_map-cons shown b rest) ∙ rw (high, low, later, whole) refl

-- ---- what is spelled is octets

no_octets : AreOctets []
no_octets i = omega arith

one_more : (b : ℕ) (bytes : List ℕ) → b < 256 → AreOctets bytes → AreOctets (b ∷ bytes)
one_more b bytes fits are zero = fits
one_more b bytes fits are (suc i) = are i

digit_below : (c v : ℕ) → digit_value c ≡ Some v → v < 16
digit_below c v = by (nat_le 65 c && nat_le c 70) (nat_le 97 c && nat_le c 102) (nat_le 48 c && nat_le c 57) refl refl refl where
  by : (capital small digit : Bool) → (nat_le 65 c && nat_le c 70) ≡ capital → (nat_le 97 c && nat_le c 102) ≡ small → (nat_le 48 c && nat_le c 57) ≡ digit
      → cond {A = Option ℕ} capital (Some (c - 55)) (cond {A = Option ℕ} small (Some (c - 87)) (cond {A = Option ℕ} digit (Some (c - 48)) None)) ≡ Some v → v < 16
  by true small digit p q r e = let is : c - 55 ≡ v = cc in grind (arith, nat_tests)
  by false true digit p q r e = let is : c - 87 ≡ v = cc in grind (arith, nat_tests)
  by false false true p q r e = let is : c - 48 ≡ v = cc in grind (arith, nat_tests)
  by false false false p q r e = absurd cc

pub spelled_octets : (s m : List ℕ) → spelled s ≡ Some m → AreOctets m
unfolding spelled
spelled_octets [] m e = let is : [] ≡ m = cc in subst AreOctets is no_octets
spelled_octets (c ∷ []) m e = absurd cc
spelled_octets (c ∷ d ∷ rest) m e = by (digit_value c) (digit_value d) (spelled rest) (λ octets r. spelled_octets rest octets r) refl refl refl e where
  by : (high low : Option ℕ) (later : Option (List ℕ)) → ((octets : List ℕ) → spelled rest ≡ Some octets → AreOctets octets)
      → digit_value c ≡ high → digit_value d ≡ low → spelled rest ≡ later → pair_before high low later ≡ Some m → AreOctets m
  by (Some h) (Some l) (Some octets) are p q r e =
      let is : (h * 16 + l) ∷ octets ≡ m = cc in
      let few = digit_below c h p in
      let also = digit_below d l q in
      subst AreOctets is (one_more (h * 16 + l) octets (omega arith) (are octets r))
  by (Some h) (Some l) None are p q r e = absurd cc
  by (Some h) None later are p q r e = absurd cc
  by None low later are p q r e = absurd cc

-- ---- pairs of digits, in words

abbrev capital_of : ℕ → ℕ
capital_of n = slice_index (codes "0123456789ABCDEF") n

-- whether the octet is a digit of the value that it is read as
abbrev is_digit_of : Option ℕ → ℕ → Bool
is_digit_of None c = true
is_digit_of (Some v) c = (c == digit_of v) || (c == capital_of v)

digit_small : (c v : ℕ) → digit_value c ≡ Some v → c < 103
digit_small c v = by (nat_le 65 c && nat_le c 70) (nat_le 97 c && nat_le c 102) (nat_le 48 c && nat_le c 57) refl refl refl where
  by : (capital small digit : Bool) → (nat_le 65 c && nat_le c 70) ≡ capital → (nat_le 97 c && nat_le c 102) ≡ small → (nat_le 48 c && nat_le c 57) ≡ digit
      → cond {A = Option ℕ} capital (Some (c - 55)) (cond {A = Option ℕ} small (Some (c - 87)) (cond {A = Option ℕ} digit (Some (c - 48)) None)) ≡ Some v → c < 103
  by true small digit p q r e = grind (arith, nat_tests)
  by false true digit p q r e = grind (arith, nat_tests)
  by false false true p q r e = grind (arith, nat_tests)
  by false false false p q r e = absurd cc

digit_words : (c v : ℕ) → digit_value c ≡ Some v → IsDigit c v
digit_words c v e =
    let t : is_digit_of (digit_value c) c ≡ true = agree_below_at (λ (o : ℕ). is_digit_of (digit_value o) o) (λ (o : ℕ). true) 103 c refl (digit_small c v e) in
    let test : ((c == digit_of v) || (c == capital_of v)) ≡ true = ap (λ (o : Option ℕ). is_digit_of o c) (sym e) ∙ t in
    by (c == digit_of v) refl test where
      by : (b : Bool) → (c == digit_of v) ≡ b → (b || (c == capital_of v)) ≡ true → IsDigit c v
      by true is also = inl (eqb-true c (digit_of v) is)
      by false is also = inr (eqb-true c (capital_of v) also)

capital_back : (n : ℕ) → n < 16 → digit_value (capital_of n) ≡ Some n
capital_back n lt = some_from_unwrap (digit_value (capital_of n)) n lt (eqb-true (unwrap_or (digit_value (capital_of n)) 99) n (agree_below_at (λ (k : ℕ). unwrap_or (digit_value (capital_of k)) 99 == k) (λ (k : ℕ). true) 16 n refl lt))

digit_read : (c v : ℕ) → v < 16 → IsDigit c v → digit_value c ≡ Some v
digit_read c v lt (inl small) = ap digit_value small ∙ digit_back v lt
digit_read c v lt (inr capital) = ap digit_value capital ∙ capital_back v lt

pairs_of : (text octets : List ℕ) → spelled text ≡ Some octets → ArePairs text octets
unfolding spelled
pairs_of [] octets e = let is : [] ≡ octets = cc in subst (ArePairs []) is ArePairs.ended
pairs_of (c ∷ []) octets e = absurd cc
pairs_of (c ∷ d ∷ rest) octets e = by (digit_value c) (digit_value d) (spelled rest) (λ others r. pairs_of rest others r) refl refl refl e where
  by : (high low : Option ℕ) (later : Option (List ℕ)) → ((others : List ℕ) → spelled rest ≡ Some others → ArePairs rest others)
      → digit_value c ≡ high → digit_value d ≡ low → spelled rest ≡ later → pair_before high low later ≡ Some octets → ArePairs (c ∷ d ∷ rest) octets
  by (Some h) (Some l) (Some others) are p q r e =
      let is : (h * 16 + l) ∷ others ≡ octets = cc in
      subst (ArePairs (c ∷ d ∷ rest)) is (ArePairs.pair c d h l rest others (digit_below c h p) (digit_below d l q) (digit_words c h p) (digit_words d l q) (are others r))
  by (Some h) (Some l) None are p q r e = absurd cc
  by (Some h) None later are p q r e = absurd cc
  by None low later are p q r e = absurd cc

pairs_spell : (text octets : List ℕ) → ArePairs text octets → spelled text ≡ Some octets
unfolding spelled
pairs_spell text octets ArePairs.ended = refl
pairs_spell text octets (ArePairs.pair c d h l rest others high low of_high of_low more) =
    rw (digit_read c h high of_high, digit_read d l low of_low, pairs_spell rest others more) refl

pub spelled_pairs : (text octets : List ℕ) → (spelled text ≡ Some octets) ↔ ArePairs text octets
spelled_pairs text octets = (pairs_of text octets, pairs_spell text octets)
