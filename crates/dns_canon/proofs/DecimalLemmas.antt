-- Numbers in decimal digits, and words of plain octets with such a number after them.
use Rattle.std.proofs.Common.{◌≡◌, ℕ, ◌+◌, ◌%◌, ◌<◌, ◌≤◌, leb, ltb, Bool, List, [], ◌∷◌, ◌++◌, length, true, refl, arith}
use Rattle.std.specs.Prelude.{not, ◌||◌, ◌&&◌, codes}
use Rattle.std.specs.Fmt.{decimal}
use Rattle.std.specs.List.{AllByRecursion, list_all}
use Rattle.std.proofs.lemmas.Bool.{agree_below, agree_below_at, and_parts, le-leb, ltb-true}
use Rattle.std.proofs.lemmas.Fmt.{decimal_by_steps, decimal_nonempty, length-decimal-le}
use Rattle.std.proofs.lemmas.List.{length-append}
use Rattle.dns_wire.specs.Reading.{AreOctets}
use Rattle.dns_label.specs.Text.{is_unescaped, SpellsLabel}
use Rattle.dns_label.specs.Text.SpellsLabel.{ended, itself}
use Rattle.dns_message.proofs.Octets.{no_octets, one_more}
use Rattle.dns_canon.specs.Generated.{numbered}

-- ---- digits

abbrev IsDigit : ℕ → Type 0
IsDigit octet = (48 ≤ octet) × (octet < 58)

joined : (P : ℕ → Type 0) (xs ys : List ℕ) → AllByRecursion P xs → AllByRecursion P ys → AllByRecursion P (xs ++ ys)
joined P [] ys all others = others
joined P (x ∷ xs) ys (one, all) others = (one, joined P xs ys all others)

digits : (n : ℕ) → n < 65536 → AllByRecursion IsDigit (decimal n)
digits n small =
    decimal_by_steps (λ _ ds. AllByRecursion IsDigit ds) (λ k one. ((omega arith, omega (arith, one)), tt))
    (λ k ds ten all. joined IsDigit ds ((48 + k % 10) ∷ []) all ((omega arith, omega arith), tt)) n (omega (arith, small))

pub digits_some : (n : ℕ) → n < 65536 → (0 < length (decimal n)) × (length (decimal n) ≤ 5)
digits_some n small = (decimal_nonempty n (omega (arith, small)), length-decimal-le 5 n (omega arith) (omega (arith, small)) (omega (arith, small)))

-- ---- plain words

-- an octet that represents itself in text
abbrev pub IsPlain : ℕ → Type 0
IsPlain octet = (is_unescaped octet ≡ true) × (octet < 256)

digits_agree : agree_below (λ octet. not (leb 48 octet) || is_unescaped octet) (λ octet. true) 58 ≡ true
unfolding is_unescaped
digits_agree = refl

digit_plain : (octet : ℕ) → IsDigit octet → IsPlain octet
digit_plain octet (low, high) =
    let t : (not (leb 48 octet) || is_unescaped octet) ≡ true = agree_below_at (λ (o : ℕ). not (leb 48 o) || is_unescaped o) (λ (o : ℕ). true) 58 octet digits_agree high in
    let from : leb 48 octet ≡ true = le-leb 48 octet low in
    ((rw from at t), omega (arith, high))

digits_plain : (text : List ℕ) → AllByRecursion IsDigit text → AllByRecursion IsPlain text
digits_plain [] all = tt
digits_plain (octet ∷ text) (one, all) = (digit_plain octet one, digits_plain text all)

pub numbered_plain : (word : List ℕ) (n : ℕ) → n < 65536 → AllByRecursion IsPlain word → AllByRecursion IsPlain (numbered word n)
numbered_plain word n small plain = joined IsPlain word (decimal n) plain (digits_plain (decimal n) (digits n small))

pub numbered_long : (word : List ℕ) (n : ℕ) → n < 65536 → (0 < length (numbered word n)) × (length (numbered word n) ≤ length word + 5)
numbered_long word n small =
    let some = digits_some n small in
    (omega (arith, some.0, length-append word (decimal n)), omega (arith, some.1, length-append word (decimal n)))

-- ---- what they are

pub plain_spells : (text : List ℕ) → AllByRecursion IsPlain text → SpellsLabel text text
plain_spells [] all = ended
plain_spells (octet ∷ text) (one, all) = itself octet text text one.0 (plain_spells text all)

pub plain_octets : (text : List ℕ) → AllByRecursion IsPlain text → AreOctets text
plain_octets [] all = no_octets
plain_octets (octet ∷ text) (one, all) = one_more octet text one.1 (plain_octets text all)

-- ---- words

abbrev is_word : List ℕ → Bool
is_word text = list_all (λ octet. is_unescaped octet && ltb octet 256) text

-- a word of letters and other plain octets
pub plain_word : (text : List ℕ) → is_word text ≡ true → AllByRecursion IsPlain text
plain_word [] e = tt
plain_word (octet ∷ text) e =
    let one = and_parts (is_unescaped octet && ltb octet 256) (is_word text) e in
    let parts = and_parts (is_unescaped octet) (ltb octet 256) one.0 in
    ((parts.0, ltb-true octet 256 parts.1), plain_word text one.1)

pub h_plain : AllByRecursion IsPlain (codes "h")
unfolding is_unescaped
h_plain = plain_word (codes "h") refl

pub z_plain : AllByRecursion IsPlain (codes "z")
unfolding is_unescaped
z_plain = plain_word (codes "z") refl

pub ns_plain : AllByRecursion IsPlain (codes "ns")
unfolding is_unescaped
ns_plain = plain_word (codes "ns") refl

pub mx_plain : AllByRecursion IsPlain (codes "mx")
unfolding is_unescaped
mx_plain = plain_word (codes "mx") refl

pub t_plain : AllByRecursion IsPlain (codes "t")
unfolding is_unescaped
t_plain = plain_word (codes "t") refl

pub example_plain : AllByRecursion IsPlain (codes "example") × AllByRecursion IsPlain (codes "Example") × AllByRecursion IsPlain (codes "EXAMPLE")
unfolding is_unescaped
example_plain = (plain_word (codes "example") refl, plain_word (codes "Example") refl, plain_word (codes "EXAMPLE") refl)

-- a backslash represents no octet by itself
pub plain_no_backslash : is_unescaped 92 ≡ true → ⊥
unfolding is_unescaped
plain_no_backslash e = absurd cc
