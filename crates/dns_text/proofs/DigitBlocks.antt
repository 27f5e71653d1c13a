-- The octets that digits spell, by blocks.
use Rattle.std.proofs.Common.{◌≡◌, ℕ, zero, suc, ◌+◌, ◌-◌, ◌*◌, ◌%◌, ◌^◌, ◌<◌, ◌≤◌, ◌&&◌, Bool, true, false, cond, eqb, ltb, bit_or, Fits, w8, List, [], ◌∷◌, ◌++◌, length, map, take, drop, Option, Some, None, refl, sym, ap, ap₂, ◌∙◌, subst, arith, append_assoc, append-nil, length-append}
use Rattle.std.specs.Prelude.{MatchBool, MatchResult, Result, Ok, Err, is_ok}
use Rattle.std.specs.List.{list_all, range_with_len}
use Rattle.std.proofs.lemmas.Bool.{agree_below_at, eqb-true, ltb-true}
use Rattle.std.proofs.lemmas.List.{length-drop, length-map}
use Rattle.std.proofs.lemmas.Nat.{or_shifted}
use Rattle.std.proofs.lemmas.Simd.{chunk-drop, length-chunk, map-map, mask_l-mod, pick_l_whole, take_more_put_chunk}
use lib.Lanes.{Each1, chunk, mask_l, pick_l, put_chunk, top}
use Rattle.hex.specs.Hex.{decode_pairs, decode_sized}
use Rattle.hex.specs.declared.error.FromHexError.{FromHexError}
use Rattle.hex.proofs.Pairs.{decode_sized-pairs}
use Rattle.dns_text.specs.Hexadecimal.{digit_value, spelled, pair_before}
use Rattle.dns_text.specs.Digits.{value_before, digit_values}
use Rattle.dns_text.proofs.Decoding.{decoded}
use Rattle.dns_text.proofs.Lanes.{below, full_mask, less, more}

-- ---- the value of a digit, as a lane computes it

abbrev pub numeral : ℕ → ℕ
numeral c = less c 48

abbrev pub letter : ℕ → ℕ
letter c = less (bit_or c 32) 97

-- the lane that says whether an octet is taken for a digit, and the value that it then has
abbrev pub test : ℕ → ℕ
test c = bit_or (below (numeral c) 10) (below (letter c) 6)

abbrev pub value : ℕ → ℕ
value c = cond (top 7 (below (numeral c) 10)) (numeral c) (more (letter c) 10)

abbrev is_taken : ℕ → Bool
is_taken c = top 7 (test c)

abbrev alike : Option ℕ → Option ℕ → Bool
alike None None = true
alike None (Some y) = false
alike (Some x) None = false
alike (Some x) (Some y) = eqb x y

alike_is : (a b : Option ℕ) → alike a b ≡ true → a ≡ b
alike_is None None e = refl
alike_is None (Some y) e = cc
alike_is (Some x) None e = cc
alike_is (Some x) (Some y) e = ap Some (eqb-true x y e)

-- each of the 256 octets has the value that its lane computes
digit_is : (c : ℕ) → c < 256 → digit_value c ≡ cond (is_taken c) (Some (value c)) None
digit_is c fits = alike_is _ _ (agree_below_at (λ o. alike (digit_value o) (cond (is_taken o) (Some (value o)) None)) (λ _. true) 256 c refl fits)

values_are : (digits : List ℕ) → Each1 (Fits w8) digits → digit_values digits ≡ cond (list_all is_taken digits) (Some (map value digits)) None
unfolding digit_values
values_are [] fits = refl
values_are (c ∷ rest) fits = ap₂ value_before (digit_is c fits.0.fits) (values_are rest fits.1) ∙ by (is_taken c) (list_all is_taken rest) where
  by : (one others : Bool) → value_before (cond one (Some (value c)) None) (cond others (Some (map value rest)) None) ≡ cond (one && others) (Some (value c ∷ map value rest)) None
  by true true = refl
  by true false = refl
  by false others = refl

pub values_read : (digits : List ℕ) {tests values : List ℕ} → (length digits ≡ 16) × Each1 (Fits w8) digits → tests ≡ map test digits → values ≡ map value digits
    → MatchBool (eqb (mask_l (map (top 7) tests) % 2 ^ 64) (2 ^ 16 - 1)) (digit_values digits ≡ Some values) (digit_values digits ≡ None)
values_read digits {tests} {values} (long, fits) p q =
    let mask : mask_l (map (top 7) tests) % 2 ^ 64 ≡ mask_l (map is_taken digits) =
    ap (λ l. mask_l l % 2 ^ 64) (ap (map (top 7)) p ∙ map-map (top 7) test digits) ∙ mask_l-mod (map is_taken digits) 64 (omega (arith, length-map digits is_taken)) in
    let all : eqb (mask_l (map (top 7) tests) % 2 ^ 64) (2 ^ 16 - 1) ≡ list_all is_taken digits =
    ap₂ (λ m n. eqb m (2 ^ n - 1)) mask (sym long) ∙ full_mask is_taken digits in
    rw (all, q) (by (list_all is_taken digits) (values_are digits fits)) where
      by : (b : Bool) → digit_values digits ≡ cond b (Some (map value digits)) None → MatchBool b (digit_values digits ≡ Some (map value digits)) (digit_values digits ≡ None)
      by true e = e
      by false e = e

-- ---- pairs of values

abbrev is_small : Option ℕ → Bool
is_small None = true
is_small (Some value) = ltb value 16

abbrev AreValues : List ℕ → List ℕ → Type 0
AreValues digits values = (length values ≡ length digits) × Each1 (λ value. value < 16) values

are_values : (digits values : List ℕ) → Each1 (Fits w8) digits → digit_values digits ≡ Some values → AreValues digits values
unfolding digit_values
are_values [] values fits e = let is : [] ≡ values = cc in subst (AreValues []) is (refl, tt)
are_values (c ∷ rest) values fits e =
    by (digit_value c) (digit_values rest) (agree_below_at (λ o. is_small (digit_value o)) (λ _. true) 256 c refl fits.0.fits) (λ others r. are_values rest others fits.1 r) e where
      by : (first : Option ℕ) (later : Option (List ℕ)) → is_small first ≡ true → ((others : List ℕ) → later ≡ Some others → AreValues rest others) → value_before first later ≡ Some values → AreValues (c ∷ rest) values
      by (Some v) (Some others) small are e =
          let is : v ∷ others ≡ values = cc in
          let r = are others refl in
          subst (AreValues (c ∷ rest)) is (ap suc r.0, (ltb-true v 16 small, r.1))
      by (Some v) None small are e = absurd cc
      by None later small are e = absurd cc

-- the octet of each pair of values
abbrev pub paired : (ℕ → ℕ → ℕ) → List ℕ → List ℕ
paired f [] = []
paired f (high ∷ []) = []
paired f (high ∷ low ∷ rest) = f high low ∷ paired f rest

abbrev octet_of : ℕ → ℕ → ℕ
octet_of high low = high * 16 + low

abbrev pub packed : ℕ → ℕ → ℕ
packed high low = bit_or (high * 2 ^ 4 % 2 ^ 8) low

packed_is : (high low : ℕ) → high < 16 → low < 16 → packed high low ≡ octet_of high low
packed_is high low few less =
    let kept : high * 2 ^ 4 % 2 ^ 8 ≡ high * 2 ^ 4 = omega arith in
    ap (λ h. bit_or h low) kept ∙ or_shifted high 4 low less

all_packed : (values : List ℕ) → Each1 (λ value. value < 16) values → paired packed values ≡ paired octet_of values
all_packed [] small = refl
all_packed (high ∷ []) small = refl
all_packed (high ∷ low ∷ rest) small = ap₂ (λ x xs. x ∷ xs) (packed_is high low small.0 small.1.0) (all_packed rest small.1.1)

small_both : (a b : List ℕ) → Each1 (λ value. value < 16) a → Each1 (λ value. value < 16) b → Each1 (λ value. value < 16) (a ++ b)
small_both [] b p q = q
small_both (x ∷ a) b p q = (p.0, small_both a b p.1 q)

abbrev of_values : Option (List ℕ) → Option (List ℕ)
of_values None = None
of_values (Some values) = Some (paired octet_of values)

spelled_by_values : (n : ℕ) (digits : List ℕ) → length digits ≡ 2 * n → spelled digits ≡ of_values (digit_values digits)
unfolding spelled digit_values
spelled_by_values n [] even = refl
spelled_by_values n (c ∷ []) even = absurd (omega arith)
spelled_by_values zero (c ∷ d ∷ rest) even = absurd (omega arith)
spelled_by_values (suc n) (c ∷ d ∷ rest) even =
    ap (pair_before (digit_value c) (digit_value d)) (spelled_by_values n rest (omega arith)) ∙ by (digit_value c) (digit_value d) (digit_values rest) where
      by : (high low : Option ℕ) (later : Option (List ℕ)) → pair_before high low (of_values later) ≡ of_values (value_before high (value_before low later))
      by (Some h) (Some l) (Some values) = refl
      by (Some h) (Some l) None = refl
      by (Some h) None later = refl
      by None low later = refl

-- the values of two blocks
abbrev both : Option (List ℕ) → Option (List ℕ) → Option (List ℕ)
both (Some first) (Some second) = Some (first ++ second)
both first second = None

values_of_both : (first second : List ℕ) → digit_values (first ++ second) ≡ both (digit_values first) (digit_values second)
unfolding digit_values
values_of_both [] second = by (digit_values second) where
  by : (later : Option (List ℕ)) → later ≡ both (Some []) later
  by (Some values) = refl
  by None = refl
values_of_both (c ∷ rest) second = ap (value_before (digit_value c)) (values_of_both rest second) ∙ by (digit_value c) (digit_values rest) (digit_values second) where
  by : (one : Option ℕ) (first later : Option (List ℕ)) → value_before one (both first later) ≡ both (value_before one first) later
  by (Some v) (Some values) (Some others) = refl
  by (Some v) (Some values) None = refl
  by (Some v) None later = refl
  by None first later = refl

module _ (first second : List ℕ) (p : (length first ≡ 16) × Each1 (Fits w8) first) (q : (length second ≡ 16) × Each1 (Fits w8) second) where
  by_values : spelled (first ++ second) ≡ of_values (both (digit_values first) (digit_values second))
  by_values = spelled_by_values 16 (first ++ second) (omega (arith, length-append first second, p.0, q.0)) ∙ ap of_values (values_of_both first second)

  -- the octet of each pair of lanes
  pub block_read : (a b : List ℕ) (t u : Bool) → MatchBool t (digit_values first ≡ Some a) (digit_values first ≡ None) → MatchBool u (digit_values second ≡ Some b) (digit_values second ≡ None)
      → MatchBool (t && u) (spelled (first ++ second) ≡ Some (paired packed (pick_l 0 (a ++ b) (range_with_len 0 32)))) (spelled (first ++ second) ≡ None)
  block_read a b true true some other =
      let one = are_values first a p.1 some in
      let two = are_values second b q.1 other in
      by_values ∙ ap₂ (λ x y. of_values (both x y)) some other
      ∙ ap Some (sym (all_packed (a ++ b) (small_both a b one.1 two.1)) ∙ ap (paired packed) (sym (pick_l_whole 0 (a ++ b) 32 (omega (arith, length-append a b, one.0, two.0, p.0, q.0)))))
  block_read a b true false some none = by_values ∙ ap₂ (λ x y. of_values (both x y)) some none
  block_read a b false u none other = by_values ∙ ap (λ x. of_values (both x (digit_values second))) none

-- ---- one block after another

abbrev pub joined : List ℕ → Option (List ℕ) → Option (List ℕ)
joined prefix None = None
joined prefix (Some octets) = Some (prefix ++ octets)

pub joined_none : (read : Option (List ℕ)) → joined [] read ≡ read
joined_none None = refl
joined_none (Some octets) = refl

joined_twice : (prefix more : List ℕ) (read : Option (List ℕ)) → joined prefix (joined more read) ≡ joined (prefix ++ more) read
joined_twice prefix more None = refl
joined_twice prefix more (Some octets) = ap Some (sym (append_assoc prefix more octets))

-- what one text spells, before what another spells
abbrev before : Option (List ℕ) → Option (List ℕ) → Option (List ℕ)
before None later = None
before (Some octets) later = joined octets later

spelled-append : (n : ℕ) (text later : List ℕ) → length text ≡ 2 * n → spelled (text ++ later) ≡ before (spelled text) (spelled later)
unfolding spelled
spelled-append n [] later even = sym (joined_none (spelled later))
spelled-append n (c ∷ []) later even = absurd (omega arith)
spelled-append zero (c ∷ d ∷ rest) later even = absurd (omega arith)
spelled-append (suc n) (c ∷ d ∷ rest) later even =
    ap (pair_before (digit_value c) (digit_value d)) (spelled-append n rest later (omega arith)) ∙ by (digit_value c) (digit_value d) (spelled rest) (spelled later) where
      by : (high low : Option ℕ) (first others : Option (List ℕ)) → pair_before high low (before first others) ≡ before (pair_before high low first) others
      by (Some h) (Some l) (Some octets) (Some more) = refl
      by (Some h) (Some l) (Some octets) None = refl
      by (Some h) (Some l) None others = refl
      by (Some h) None first others = refl
      by None low first others = refl

spelled_long : (n : ℕ) (text octets : List ℕ) → length text ≡ 2 * n → spelled text ≡ Some octets → length octets ≡ n
unfolding spelled
spelled_long n [] octets even e = let is : [] ≡ octets = cc in ap length (sym is) ∙ omega arith
spelled_long n (c ∷ []) octets even e = absurd (omega arith)
spelled_long zero (c ∷ d ∷ rest) octets even e = absurd (omega arith)
spelled_long (suc n) (c ∷ d ∷ rest) octets even e = by (digit_value c) (digit_value d) (spelled rest) (λ later r. spelled_long n rest later (omega arith) r) e where
  by : (high low : Option ℕ) (others : Option (List ℕ)) → ((later : List ℕ) → others ≡ Some later → length later ≡ n) → pair_before high low others ≡ Some octets → length octets ≡ suc n
  by (Some h) (Some l) (Some later) are e = let is : (h * 16 + l) ∷ later ≡ octets = cc in ap length (sym is) ∙ ap suc (are later refl)
  by (Some h) (Some l) None are e = absurd cc
  by (Some h) None others are e = absurd cc
  by None low others are e = absurd cc

module _ (text octets : List ℕ) (at : ℕ) (within : at + 16 ≤ length octets) (long : length text ≡ 2 * length octets) (so_far : spelled text ≡ joined (take at octets) (spelled (drop (2 * at) text))) where
  abbrev first : List ℕ
  first = chunk (2 * at) 16 text

  abbrev second : List ℕ
  second = chunk (2 * at + 16) 16 text

  parts : drop (2 * at) text ≡ (first ++ second) ++ drop (2 * (at + 16)) text
  parts =
      let next : 2 * at + 16 + 16 ≡ 2 * (at + 16) = omega arith in
      chunk-drop (2 * at) 16 text ∙ ap (λ l. first ++ l) (chunk-drop (2 * at + 16) 16 text ∙ ap (λ n. second ++ drop n text) next)
      ∙ sym (append_assoc first second (drop (2 * (at + 16)) text))

  whole : length (first ++ second) ≡ 2 * 16
  whole = omega (arith, length-append first second, length-chunk (2 * at) 16 text (omega (arith, within, long)), length-chunk (2 * at + 16) 16 text (omega (arith, within, long)))

  next_block : spelled text ≡ joined (take at octets) (before (spelled (first ++ second)) (spelled (drop (2 * (at + 16)) text)))
  next_block = so_far ∙ ap (joined (take at octets)) (ap spelled parts ∙ spelled-append 16 (first ++ second) (drop (2 * (at + 16)) text) whole)

  pub bad_block : spelled (first ++ second) ≡ None → spelled text ≡ None
  bad_block none = next_block ∙ ap (λ r. joined (take at octets) (before r (spelled (drop (2 * (at + 16)) text)))) none

  pub good_block : (block : List ℕ) → spelled (first ++ second) ≡ Some block → spelled text ≡ joined (take (at + 16) (put_chunk at octets block)) (spelled (drop (2 * (at + 16)) text))
  good_block block some =
      next_block ∙ ap (λ r. joined (take at octets) (before r (spelled (drop (2 * (at + 16)) text)))) some
      ∙ joined_twice (take at octets) block (spelled (drop (2 * (at + 16)) text))
      ∙ ap (λ l. joined l (spelled (drop (2 * (at + 16)) text))) (sym (take_more_put_chunk at octets block (at + 16) (omega (arith, spelled_long 16 (first ++ second) block whole some)) within))

-- what fills no block, and nothing after it
pub last_read : (text octets rest out back : List ℕ) (at room : ℕ) (r : Result (Unit {0}) FromHexError) (b : Bool) → length text ≡ 2 * length octets → spelled text ≡ joined (take at octets) (spelled (drop (2 * at) text))
    → rest ≡ drop (2 * at) text → room ≡ length octets - at → back ≡ [] → MatchResult (decode_sized rest room) (λ bytes. (r ≡ Ok tt) × (out ≡ bytes)) (λ e. r ≡ Err e) → b ≡ is_ok r
    → MatchBool b (spelled text ≡ Some (take at octets ++ (out ++ back))) (spelled text ≡ None)
last_read text octets rest out back at room r b long so_far rest-is room-is none read ok =
    let many : length rest ≡ 2 * room = omega (arith, ap length rest-is, length-drop (2 * at) text, long, room-is) in
    by (decode_pairs 0 rest) (decoded 0 rest) (rw (decode_sized-pairs rest room (omega (arith, many)) (omega (arith, many))) at read) where
      so : (found : Option (List ℕ)) → spelled rest ≡ found → spelled text ≡ joined (take at octets) found
      so found is = so_far ∙ ap (joined (take at octets)) (ap spelled (sym rest-is) ∙ is)

      by : (answer : Result (List ℕ) FromHexError) → MatchResult answer (λ bytes. spelled rest ≡ Some bytes) (λ e. spelled rest ≡ None) → MatchResult answer (λ bytes. (r ≡ Ok tt) × (out ≡ bytes)) (λ e. r ≡ Err e)
          → MatchBool b (spelled text ≡ Some (take at octets ++ (out ++ back))) (spelled text ≡ None)
      by (Ok bytes) is told = rw (ok, told.0) (so (Some bytes) is ∙ ap (λ (l : List ℕ). Some (take at octets ++ l)) (sym (ap (λ (l : List ℕ). out ++ l) none ∙ append-nil out ∙ told.1)))
      by (Err e) is told = rw (ok, told) (so None is)
