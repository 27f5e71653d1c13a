-- Octets as hexadecimal text (RFC 4648 section 8).
use Rattle.std.specs.Prelude.{◌≡◌, ◌⊎◌, ◌<◌, ℕ, ◌+◌, ◌-◌, ◌*◌, ◌/◌, ◌%◌, ◌==◌, ◌||◌, ◌&&◌, nat_le, Bool, if◌then◌else◌, List, [], ◌∷◌, ◌++◌, Option, Some, None, codes, slice_index, flat_map}
use Rattle.std.specs.List.{AllByRecursion}
use Rattle.dns_wire.specs.Octets.{Octets}

-- ---- reading

-- a space, a tab, CR or LF
abbrev pub is_whitespace : ℕ → Bool
is_whitespace b = b == 32 || b == 9 || b == 13 || b == 10

-- the same in words
abbrev pub IsWhitespace : ℕ → Type 0
IsWhitespace b = (b ≡ 32) ⊎ ((b ≡ 9) ⊎ ((b ≡ 13) ⊎ (b ≡ 10)))

-- A text without the whitespace at its end: what is left is its start, all after that is whitespace, and what is left is empty
-- or ends in an octet that is none.
pub record Trimmed (text left : Octets) : Type 0 where
  pub whitespace : Octets
  pub text_is : text ≡ left ++ whitespace
  pub blank : AllByRecursion IsWhitespace whitespace
  pub solid : (before : Octets) (last : ℕ) → left ≡ before ++ last ∷ [] → ¬ IsWhitespace last

-- an octet and the text after it, which has no whitespace at its end
abbrev pub trim_cons : ℕ → Octets → Octets
trim_cons b [] = if is_whitespace b then [] else b ∷ []
trim_cons b (c ∷ rest) = b ∷ c ∷ rest

-- a text without the whitespace at its end; `trimmed_text` says it in other words
unfoldable pub trim : Octets → Octets
trim [] = []
trim (b ∷ rest) = trim_cons b (trim rest)

-- the value of a digit: `A` to `F` are 10 to 15, `a` to `f` too, and `0` to `9` are 0 to 9
abbrev pub digit_value : ℕ → Option ℕ
digit_value c =
    if nat_le 65 c && nat_le c 70 then Some (c - 55)
    else if nat_le 97 c && nat_le c 102 then Some (c - 87)
    else if nat_le 48 c && nat_le c 57 then Some (c - 48)
    else None

-- the octet of two digits, before the octets after it
abbrev pub pair_before : Option ℕ → Option ℕ → Option Octets → Option Octets
pair_before (Some high) (Some low) (Some octets) = Some ((high * 16 + low) ∷ octets)
pair_before high low octets = None

-- the octets that pairs of digits spell; `None` if the text is no pairs of digits
unfoldable pub spelled : Octets → Option Octets
spelled [] = Some []
spelled (c ∷ []) = None
spelled (c ∷ d ∷ rest) = pair_before (digit_value c) (digit_value d) (spelled rest)

-- the digit of this value: a letter is in lowercase or a capital
abbrev pub IsDigit : ℕ → ℕ → Type 0
IsDigit c value = (c ≡ slice_index (codes "0123456789abcdef") value) ⊎ (c ≡ slice_index (codes "0123456789ABCDEF") value)

-- the text is pairs of digits, and they spell these octets, the high digit of each first
pub data ArePairs : Octets → Octets → Type 0 where
  ended : ArePairs [] []
  pair : (c d high low : ℕ) (text octets : Octets) → high < 16 → low < 16 → IsDigit c high → IsDigit d low → ArePairs text octets → ArePairs (c ∷ d ∷ text) ((high * 16 + low) ∷ octets)

-- except for whitespace at its end, the text is pairs of digits, and they spell these octets
abbrev pub Spells : Octets → Octets → Type 0
Spells text octets = spelled (trim text) ≡ Some octets

-- the text spells no octets
abbrev pub SpellsNothing : Octets → Type 0
SpellsNothing text = spelled (trim text) ≡ None

-- ---- writing

-- the digits of an octet, in lowercase
abbrev pub shown : ℕ → Octets
shown octet = slice_index (codes "0123456789abcdef") (octet / 16) ∷ slice_index (codes "0123456789abcdef") (octet % 16) ∷ []

-- the digits of some octets, and LF
abbrev pub line : Octets → Octets
line octets = flat_map shown octets ++ 10 ∷ []

-- a line for each list of octets
abbrev pub lines : List Octets → Octets
lines lists = flat_map line lists
