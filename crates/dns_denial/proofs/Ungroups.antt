-- Octets from text in base32hex, by groups of eight digits.
use Rattle.std.proofs.Common.{◌≡◌, ℕ, zero, suc, ◌+◌, ◌*◌, ◌/◌, ◌%◌, ◌^◌, ◌<◌, ◌≤◌, List, [], ◌∷◌, ◌++◌, length, map, take, drop, get_or, Bool, true, false, cond, Option, Some, None, eq-eqb, refl, sym, ap, subst, ◌∙◌, arith, take-append-drop, zero-add}
use Rattle.std.specs.Prelude.{◌↔◌, ◌==◌, ◌&&◌}
use Rattle.std.specs.List.{range_with_len}
use Rattle.std.specs.Str.{bytes_eq}
use Rattle.std.specs.Cmp.Lexicographic.{bytes_decides}
use Rattle.std.proofs.lemmas.Bool.{and_parts, eqb-true}
use Rattle.std.proofs.lemmas.List.{get_or-map, length-append, length-drop, drop-drop}
use Rattle.std.proofs.lemmas.List.FromFn.{get_or-range_with_len}
use Rattle.std.proofs.lemmas.Slice.{take-put_mid}
use Rattle.dns_denial.specs.Base32.{base32hex_of, digits, last_digit, eight_digits, forty_bits}
use Rattle.dns_wire.specs.Reading.{AreOctets}
use Rattle.dns_denial.specs.Unbase32.{bits_of, digit_value, five_octets, groups_read, hash_of_text}
use Rattle.dns_message.proofs.Octets.{no_octets, octets_from, octets_of_both, one_more}
use borrow.Rule.Slice.PartMut.{put_mid}

-- ---- digits

all_values : map digit_value digits ≡ range_with_len 0 32
unfolding digit_value
all_values = refl

-- a digit's value is that of its bits
pub value_back : (bits : ℕ) → digit_value (last_digit bits) ≡ bits % 32
unfolding digit_value
value_back bits =
    let low : bits % 32 < 32 = omega arith in
    sym (get_or-map digit_value digits (bits % 32) 0 0 low) ∙ ap (λ (values : List ℕ). get_or values (bits % 32) 0) all_values ∙ get_or-range_with_len 0 32 (bits % 32) 0 low ∙ zero-add (bits % 32)

-- a number is made of its last five bits and what is before them
halves : (n : ℕ) → n ≡ n / 32 * 32 + n % 32
halves n = omega arith

-- forty bits from their eight digits
pub whole_bits : (n : ℕ) → n < 2 ^ 40
    → ((((((n / 2 ^ 35 % 32 * 32 + n / 2 ^ 30 % 32) * 32 + n / 2 ^ 25 % 32) * 32 + n / 2 ^ 20 % 32) * 32 + n / 2 ^ 15 % 32) * 32 + n / 2 ^ 10 % 32) * 32 + n / 2 ^ 5 % 32) * 32 + n % 32 ≡ n
whole_bits n small =
    let a : n / 2 ^ 30 / 32 ≡ n / 2 ^ 35 = omega arith in
    let b : n / 2 ^ 25 / 32 ≡ n / 2 ^ 30 = omega arith in
    let c : n / 2 ^ 20 / 32 ≡ n / 2 ^ 25 = omega arith in
    let d : n / 2 ^ 15 / 32 ≡ n / 2 ^ 20 = omega arith in
    let e : n / 2 ^ 10 / 32 ≡ n / 2 ^ 15 = omega arith in
    let f : n / 2 ^ 5 / 32 ≡ n / 2 ^ 10 = omega arith in
    let g : n / 32 ≡ n / 2 ^ 5 = omega arith in
    let top : n / 2 ^ 35 % 32 ≡ n / 2 ^ 35 = omega arith in
    let a' = halves (n / 2 ^ 30) in
    let b' = halves (n / 2 ^ 25) in
    let c' = halves (n / 2 ^ 20) in
    let d' = halves (n / 2 ^ 15) in
    let e' = halves (n / 2 ^ 10) in
    let f' = halves (n / 2 ^ 5) in
    let g' = halves n in
    omega arith

-- the digits' values make the bits
pub bits_back : (group : List ℕ) (bits : ℕ) → bits < 2 ^ 40 → group ≡ eight_digits bits → bits_of group ≡ bits
bits_back group bits small is =
    let v0 = value_back (bits / 2 ^ 35) in
    let v1 = value_back (bits / 2 ^ 30) in
    let v2 = value_back (bits / 2 ^ 25) in
    let v3 = value_back (bits / 2 ^ 20) in
    let v4 = value_back (bits / 2 ^ 15) in
    let v5 = value_back (bits / 2 ^ 10) in
    let v6 = value_back (bits / 2 ^ 5) in
    let v7 = value_back bits in
    ap bits_of is ∙ (rw (v0, v1, v2, v3, v4, v5, v6, v7) (whole_bits bits small))

-- ---- groups

-- the first group is of the first five octets
pub first_eight : (xs : List ℕ) → 5 ≤ length xs
    → take 8 (base32hex_of xs) ≡ eight_digits (forty_bits (get_or xs 0 0) (get_or xs 1 0) (get_or xs 2 0) (get_or xs 3 0) (get_or xs 4 0))
unfolding base32hex_of
first_eight (a ∷ b ∷ c ∷ d ∷ e ∷ rest) long = refl
first_eight (a ∷ b ∷ c ∷ d ∷ []) long = absurd (omega arith)
first_eight (a ∷ b ∷ c ∷ []) long = absurd (omega arith)
first_eight (a ∷ b ∷ []) long = absurd (omega arith)
first_eight (a ∷ []) long = absurd (omega arith)
first_eight [] long = absurd (omega arith)

-- after the first group is the text of the octets after the first five
behind_eight : (xs : List ℕ) → 5 ≤ length xs → drop 8 (base32hex_of xs) ≡ base32hex_of (drop 5 xs)
unfolding base32hex_of
behind_eight (a ∷ b ∷ c ∷ d ∷ e ∷ rest) long = refl
behind_eight (a ∷ b ∷ c ∷ d ∷ []) long = absurd (omega arith)
behind_eight (a ∷ b ∷ c ∷ []) long = absurd (omega arith)
behind_eight (a ∷ b ∷ []) long = absurd (omega arith)
behind_eight (a ∷ []) long = absurd (omega arith)
behind_eight [] long = absurd (omega arith)

pub behind_groups : (i : ℕ) (xs : List ℕ) → 5 * i ≤ length xs → drop (8 * i) (base32hex_of xs) ≡ base32hex_of (drop (5 * i) xs)
behind_groups zero xs long = refl
behind_groups (suc i) xs long =
    let text : 8 * suc i ≡ 8 * i + 8 = omega arith in
    let octets : 5 * suc i ≡ 5 * i + 5 = omega arith in
    let before = behind_groups i xs (omega arith) in
    rw (text, octets, ← drop-drop 8 (8 * i) (base32hex_of xs), before, behind_eight (drop (5 * i) xs) (omega (arith, length-drop (5 * i) xs)), drop-drop 5 (5 * i) xs) refl

-- five octets are those of their forty bits
pub octets_back : (xs : List ℕ) → AreOctets xs → 5 ≤ length xs
    → take 5 xs ≡ five_octets (forty_bits (get_or xs 0 0) (get_or xs 1 0) (get_or xs 2 0) (get_or xs 3 0) (get_or xs 4 0))
octets_back (a ∷ b ∷ c ∷ d ∷ e ∷ rest) small long =
    let a' : a < 256 = small 0 in
    let b' : b < 256 = small 1 in
    let c' : c < 256 = small 2 in
    let d' : d < 256 = small 3 in
    let e' : e < 256 = small 4 in
    let n = forty_bits a b c d e in
    let p : a ≡ n / 2 ^ 32 % 256 = omega arith in
    let q : b ≡ n / 2 ^ 24 % 256 = omega arith in
    let r : c ≡ n / 2 ^ 16 % 256 = omega arith in
    let s : d ≡ n / 2 ^ 8 % 256 = omega arith in
    let t : e ≡ n % 256 = omega arith in
    λ i. p i ∷ q i ∷ r i ∷ s i ∷ t i ∷ []
octets_back (a ∷ b ∷ c ∷ d ∷ []) small long = absurd (omega arith)
octets_back (a ∷ b ∷ c ∷ []) small long = absurd (omega arith)
octets_back (a ∷ b ∷ []) small long = absurd (omega arith)
octets_back (a ∷ []) small long = absurd (omega arith)
octets_back [] small long = absurd (omega arith)

small_bits : (a b c d e : ℕ) → a < 256 → b < 256 → c < 256 → d < 256 → e < 256 → forty_bits a b c d e < 2 ^ 40
small_bits a b c d e h i j k l = omega arith

-- each five octets have eight digits
pub text_long : (n : ℕ) (xs : List ℕ) → length xs ≡ 5 * n → length (base32hex_of xs) ≡ 8 * n
unfolding base32hex_of
text_long zero [] long = refl
text_long zero (x ∷ xs) long = absurd (omega arith)
text_long (suc n) (a ∷ b ∷ c ∷ d ∷ e ∷ rest) long = let later = text_long n rest (omega arith) in omega arith
text_long (suc n) (a ∷ b ∷ c ∷ d ∷ []) long = absurd (omega arith)
text_long (suc n) (a ∷ b ∷ c ∷ []) long = absurd (omega arith)
text_long (suc n) (a ∷ b ∷ []) long = absurd (omega arith)
text_long (suc n) (a ∷ []) long = absurd (omega arith)
text_long (suc n) [] long = absurd (omega arith)

-- ---- whole texts

-- one more group
groups_next : (n : ℕ) (text : List ℕ) → groups_read (suc n) text ≡ groups_read n text ++ five_octets (bits_of (take 8 (drop (8 * n) text)))
unfolding groups_read
groups_next zero text = refl
groups_next (suc n) text =
    let more : 8 + 8 * n ≡ 8 * suc n = omega arith in
    ap (λ (l : List ℕ). five_octets (bits_of (take 8 text)) ++ l)
    (groups_next n (drop 8 text) ∙ ap (λ (l : List ℕ). groups_read n (drop 8 text) ++ five_octets (bits_of (take 8 l))) (drop-drop (8 * n) 8 text ∙ ap (λ (k : ℕ). drop k text) more))

-- it is written after those before it
pub group_read : (text octets group : List ℕ) (i j k : ℕ) → length octets ≡ 20 → i < 4 → length group ≡ 5 → k ≡ 8 → group ≡ five_octets (bits_of (take k (drop (8 * i) text)))
    → take (5 * i) octets ≡ groups_read i text → take (5 * (i + 1)) (put_mid (5 * i) j octets group) ≡ groups_read (i + 1) text
group_read text octets group i j k wide early five eight is so_far =
    let next : 5 * (i + 1) ≡ 5 * i + 5 = omega arith in
    let later : suc i ≡ i + 1 = omega arith in
    ap (λ (n : ℕ). take n (put_mid (5 * i) j octets group)) next ∙ take-put_mid (5 * i) j octets group (5 * i + 5) (omega arith) (omega arith)
    ∙ ap (λ (l : List ℕ). l ++ group) so_far ∙ ap (λ (l : List ℕ). groups_read i text ++ l) (is ∙ ap (λ (n : ℕ). five_octets (bits_of (take n (drop (8 * i) text)))) eight)
    ∙ sym (groups_next i text) ∙ ap (λ (n : ℕ). groups_read n text) later

-- the octets of groups from their text
pub groups_back : (n : ℕ) (xs : List ℕ) → AreOctets xs → length xs ≡ 5 * n → groups_read n (base32hex_of xs) ≡ xs
unfolding groups_read
groups_back zero [] are long = refl
groups_back zero (x ∷ xs) are long = absurd (omega arith)
groups_back (suc n) xs are long =
    let enough : 5 ≤ length xs = omega (arith, long) in
    let bits = forty_bits (get_or xs 0 0) (get_or xs 1 0) (get_or xs 2 0) (get_or xs 3 0) (get_or xs 4 0) in
    let back = bits_back (take 8 (base32hex_of xs)) bits (small_bits _ _ _ _ _ (are 0) (are 1) (are 2) (are 3) (are 4)) (first_eight xs enough) in
    let rest = groups_back n (drop 5 xs) (octets_from 5 xs are) (omega (arith, long, length-drop 5 xs)) in
    ap (λ (k : ℕ). five_octets k ++ groups_read n (drop 8 (base32hex_of xs))) back ∙ ap (λ (l : List ℕ). five_octets bits ++ groups_read n l) (behind_eight xs enough)
    ∙ ap (λ (l : List ℕ). five_octets bits ++ l) rest ∙ ap (λ (l : List ℕ). l ++ drop 5 xs) (sym (octets_back xs are enough)) ∙ take-append-drop 5 xs

-- what is read is octets, five for each group
five_are : (bits : ℕ) → AreOctets (five_octets bits)
five_are bits =
    one_more (bits / 2 ^ 32 % 256) (bits / 2 ^ 24 % 256 ∷ bits / 2 ^ 16 % 256 ∷ bits / 2 ^ 8 % 256 ∷ bits % 256 ∷ []) (omega arith)
    (one_more (bits / 2 ^ 24 % 256) (bits / 2 ^ 16 % 256 ∷ bits / 2 ^ 8 % 256 ∷ bits % 256 ∷ []) (omega arith)
    (one_more (bits / 2 ^ 16 % 256) (bits / 2 ^ 8 % 256 ∷ bits % 256 ∷ []) (omega arith)
    (one_more (bits / 2 ^ 8 % 256) (bits % 256 ∷ []) (omega arith) (one_more (bits % 256) [] (omega arith) no_octets))))

groups_are : (n : ℕ) (text : List ℕ) → AreOctets (groups_read n text) × (length (groups_read n text) ≡ 5 * n)
unfolding groups_read
groups_are zero text = (no_octets, refl)
groups_are (suc n) text =
    let more = groups_are n (drop 8 text) in
    let five = five_octets (bits_of (take 8 text)) in
    (octets_of_both five (groups_read n (drop 8 text)) (five_are (bits_of (take 8 text))) more.0, omega (arith, more.1, length-append five (groups_read n (drop 8 text))))

-- a text is read as the hash whose text it is
pub hash_back : (text xs : List ℕ) → AreOctets xs → length xs ≡ 20 → base32hex_of xs ≡ text → hash_of_text text ≡ Some xs
unfolding hash_of_text
hash_back text xs are long is =
    let read : groups_read 4 text ≡ xs = ap (groups_read 4) (sym is) ∙ groups_back 4 xs are long in
    let wide : length text ≡ 32 = ap length (sym is) ∙ text_long 4 xs long in
    let size : (length text == 32) ≡ true = eq-eqb (length text) 32 wide in
    let same : bytes_eq (base32hex_of xs) text ≡ true = (bytes_decides (base32hex_of xs) text).1 is in
    rw (read, size, same) refl

pub hash_found : (text xs : List ℕ) → hash_of_text text ≡ Some xs → AreOctets xs × (length xs ≡ 20) × (base32hex_of xs ≡ text)
unfolding hash_of_text
hash_found text xs = by ((length text == 32) && bytes_eq (base32hex_of (groups_read 4 text)) text) refl where
  by : (b : Bool) → ((length text == 32) && bytes_eq (base32hex_of (groups_read 4 text)) text) ≡ b → cond {A = Option (List ℕ)} b (Some (groups_read 4 text)) None ≡ Some xs
      → AreOctets xs × (length xs ≡ 20) × (base32hex_of xs ≡ text)
  by true is e =
      let read : groups_read 4 text ≡ xs = cc in
      let are = groups_are 4 text in
      let written = (bytes_decides (base32hex_of (groups_read 4 text)) text).0 (and_parts (length text == 32) (bytes_eq (base32hex_of (groups_read 4 text)) text) is).1 in
      (subst AreOctets read are.0, ap length (sym read) ∙ are.1, ap base32hex_of (sym read) ∙ written)
  by false is e = absurd cc

pub hash_words : (text xs : List ℕ) → (hash_of_text text ≡ Some xs) ↔ (AreOctets xs × (length xs ≡ 20) × (base32hex_of xs ≡ text))
hash_words text xs = (hash_found text xs, λ (are, long, is). hash_back text xs are long is)

-- what is read is the hash where its text is the text
pub hash_if : (text xs : List ℕ) (same : Bool) → length text ≡ 32 → xs ≡ groups_read 4 text → bytes_eq (base32hex_of xs) text ≡ same → hash_of_text text ≡ cond {A = Option (List ℕ)} same (Some xs) None
unfolding hash_of_text
hash_if text xs same wide is test =
    let size : (length text == 32) ≡ true = eq-eqb (length text) 32 wide in
    rw (size, ← is, test) refl

pub hash_short : (text : List ℕ) → (length text ≡ 32 → ⊥) → hash_of_text text ≡ None
unfolding hash_of_text
hash_short text other = by (length text == 32) refl where
  by : (b : Bool) → (length text == 32) ≡ b → cond {A = Option (List ℕ)} (b && bytes_eq (base32hex_of (groups_read 4 text)) text) (Some (groups_read 4 text)) None ≡ None
  by true is = absurd (other (eqb-true (length text) 32 is))
  by false is = refl
