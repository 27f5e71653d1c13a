-- Labels as text: what is printed of a label, and what a text spells (RFC 1035 section 5.1, which has `\.` and `\046` for
-- a dot within a label).
use Rattle.std.specs.Prelude.{◌≡◌, ◌≢◌, ◌≤◌, ⊤, ℕ, zero, suc, ◌+◌, ◌-◌, ◌*◌, ◌/◌, ◌%◌, ◌==◌, ◌||◌, ◌&&◌, Bool, nat_le, codes, [], ◌∷◌, ◌++◌, length, Option, Some, None, Result, Ok, Err, IsTrue, IsFalse, if◌then◌else◌}
use Rattle.std.specs.List.{flat_map, list_any}
use Rattle.std.specs.Result.{result_map_both}
use Rattle.std.specs.Char.{is_ascii_alphanumeric, is_ascii_digit, is_ascii_graphic}
use Rattle.dns_wire.specs.Octets.{Octets}
use Rattle.dns_wire.specs.Texts.{backslash_octet}
use Rattle.dns_label.specs.declared.text_error.ScanFault.{ScanFault}
use Rattle.dns_label.specs.declared.text_error.ScanFault.TheVariants.{Overlong, CutEscape, WrongEscape}
use Rattle.dns_label.specs.declared.text_error.LabelParseError.{LabelParseError}
use Rattle.dns_label.specs.declared.text_error.LabelParseError.TheVariants as parse_errors
use Rattle.dns_label.specs.declared.text_error.LabelSplitError.{LabelSplitError}
use Rattle.dns_label.specs.declared.text_error.LabelSplitError.TheVariants as split_errors

-- ---- printing

-- an octet that represents itself: a letter, a digit, or one of these marks
unfoldable pub is_unescaped : ℕ → Bool
is_unescaped octet = is_ascii_alphanumeric octet || list_any (λ mark. mark == octet) (codes "!#$%&'*+,-^_`{|}~")

-- an octet as text: as it is; other graphic ASCII after a backslash; and any other octet as a backslash and three
-- decimal digits
unfoldable pub shown_octet : ℕ → Octets
shown_octet octet =
    if is_unescaped octet then octet ∷ []
    else if is_ascii_graphic octet then backslash_octet ∷ octet ∷ []
    else backslash_octet ∷ (48 + octet / 100) ∷ (48 + octet / 10 % 10) ∷ (48 + octet % 10) ∷ []

-- what is printed of a label: its octets, one after another
abbrev pub shown_label : Octets → Octets
shown_label contents = flat_map shown_octet contents

-- ---- reading

-- the number of three decimal digits
abbrev pub three_digits : ℕ → ℕ → ℕ → ℕ
three_digits a b c = (a - 48) * 100 + (b - 48) * 10 + (c - 48)

-- an escape of three decimal digits, of which the first comes before this text: the octet with that number, and the text
-- after it
unfoldable pub in_digits : ℕ → Octets → Result (Option (ℕ × Octets)) ScanFault
in_digits a [] = Err CutEscape
in_digits a (b ∷ []) = Err CutEscape
in_digits a (b ∷ c ∷ rest) =
    if is_ascii_digit b && is_ascii_digit c && nat_le (three_digits a b c) 255 then Ok (Some (three_digits a b c, rest))
    else Err WrongEscape

-- what comes after a backslash: a digit begins an escape of three, and other graphic ASCII is that octet
unfoldable pub escaped : Octets → Result (Option (ℕ × Octets)) ScanFault
escaped [] = Err CutEscape
escaped (octet ∷ rest) =
    if is_ascii_digit octet then in_digits octet rest
    else if is_ascii_graphic octet then Ok (Some (octet, rest))
    else Err WrongEscape

-- The next octet of a label, and the text after it. There is none at the end of the text, and before an octet that no
-- text of a label has.
unfoldable pub next_octet : Octets → Result (Option (ℕ × Octets)) ScanFault
next_octet [] = Ok None
next_octet (octet ∷ rest) =
    if is_unescaped octet then Ok (Some (octet, rest))
    else if octet == backslash_octet then escaped rest
    else Ok None

-- an octet, and then what is read after it
abbrev pub with_octet : ℕ → Result (Octets × Octets) ScanFault → Result (Octets × Octets) ScanFault
with_octet octet (Ok (others, rest)) = Ok (octet ∷ others, rest)
with_octet octet (Err fault) = Err fault

-- what is read from a text, if this is its next octet and more reads what comes after it
abbrev pub then_octets : (Octets → Result (Octets × Octets) ScanFault) → Octets → Result (Option (ℕ × Octets)) ScanFault → Result (Octets × Octets) ScanFault
then_octets more text (Ok (Some (octet, rest))) = with_octet octet (more rest)
then_octets more text (Ok None) = Ok ([], text)
then_octets more text (Err fault) = Err fault

-- the octets at the start of a text, if that many have room, and the text after them
unfoldable pub octets_within : ℕ → Octets → Result (Octets × Octets) ScanFault
octets_within zero text = then_octets (λ _. Err Overlong) text (next_octet text)
octets_within (suc room) text = then_octets (λ more. octets_within room more) text (next_octet text)

-- The scan of a label from the left: its contents, of at most 63 octets, and the text after them, which is at its end or
-- begins with an octet that no text of a label has; or the first fault.
unfoldable pub label_scan : Octets → Result (Octets × Octets) ScanFault
label_scan text = octets_within 63 text

-- ---- a whole text

-- what is reported of a fault
abbrev pub parse_error : ScanFault → LabelParseError
parse_error Overlong = parse_errors.Overlong
parse_error CutEscape = parse_errors.PartialEscape
parse_error WrongEscape = parse_errors.InvalidEscape

-- the label at the start of a text, which the end of the text ends too, and the text after it
abbrev pub prefix_label : Octets → Result (Octets × Octets) LabelParseError
prefix_label text = result_map_both (λ prefix. prefix) parse_error (label_scan text)

-- the contents, if the text ends after them
abbrev pub whole_label : Result (Octets × Octets) ScanFault → Result Octets LabelParseError
whole_label (Ok (contents, [])) = Ok contents
whole_label (Ok (contents, octet ∷ rest)) = Err parse_errors.InvalidChar
whole_label (Err fault) = Err (parse_error fault)

-- the label that a text spells, or the first fault from the left
abbrev pub parsed_label : Octets → Result Octets LabelParseError
parsed_label text = whole_label (label_scan text)

-- ---- the start of a text

-- a text that more octets might follow: if it cuts an escape it is too short
abbrev pub split_error : ScanFault → LabelSplitError
split_error Overlong = split_errors.Overlong
split_error CutEscape = split_errors.ShortInput
split_error WrongEscape = split_errors.InvalidEscape

-- the contents and the text after them, if it does not end there
abbrev pub label_at_start : Result (Octets × Octets) ScanFault → Result (Octets × Octets) LabelSplitError
label_at_start (Ok (contents, [])) = Err split_errors.ShortInput
label_at_start (Ok (contents, octet ∷ rest)) = Ok (contents, octet ∷ rest)
label_at_start (Err fault) = Err (split_error fault)

-- the label that the start of a text spells and the text after it, or the first fault from the left
abbrev pub split_label : Octets → Result (Octets × Octets) LabelSplitError
split_label text = label_at_start (label_scan text)

-- ---- what a call answers

-- what a call answered, seen by view, is what is read, and the error too
abbrev pub GivesResult : {X Y E : Type 0} → (X → Y) → Result X E → Result Y E → Type 0
GivesResult view (Ok x) read = read ≡ Ok (view x)
GivesResult view (Err e) read = read ≡ Err e

-- ---- in other words

-- an octet that no text of a label has: it ends a label's text
abbrev pub IsForeign : ℕ → Type 0
IsForeign octet = IsFalse (is_unescaped octet) × (octet ≢ backslash_octet)

-- the text at hand is at its end, or at an octet that no text of a label has
abbrev pub EndsLabel : Octets → Type 0
EndsLabel [] = ⊤
EndsLabel (octet ∷ rest) = IsForeign octet

-- The text spells these octets, one after another: one that represents itself, graphic ASCII other than a digit after a
-- backslash, or a backslash and three digits of a number up to 255.
pub data SpellsLabel : Octets → Octets → Type 0 where
  ended : SpellsLabel [] []
  itself : (octet : ℕ) (text octets : Octets) → IsTrue (is_unescaped octet) → SpellsLabel text octets → SpellsLabel (octet ∷ text) (octet ∷ octets)
  backslash : (octet : ℕ) (text octets : Octets) → IsTrue (is_ascii_graphic octet) → IsFalse (is_ascii_digit octet) → SpellsLabel text octets → SpellsLabel (backslash_octet ∷ octet ∷ text) (octet ∷ octets)
  digits : (a b c : ℕ) (text octets : Octets) → IsTrue (is_ascii_digit a) → IsTrue (is_ascii_digit b) → IsTrue (is_ascii_digit c) → three_digits a b c ≤ 255 → SpellsLabel text octets → SpellsLabel (backslash_octet ∷ a ∷ b ∷ c ∷ text) (three_digits a b c ∷ octets)

-- an escape that the end of the text cuts: a backslash alone, or before a digit and at most one octet after that
pub data IsCutEscape : Octets → Type 0 where
  alone : IsCutEscape (backslash_octet ∷ [])
  one : (a : ℕ) → IsTrue (is_ascii_digit a) → IsCutEscape (backslash_octet ∷ a ∷ [])
  two : (a b : ℕ) → IsTrue (is_ascii_digit a) → IsCutEscape (backslash_octet ∷ a ∷ b ∷ [])

-- the digits of a number up to 255
pub record AreDigits (a b c : ℕ) : Type 0 where
  pub second : IsTrue (is_ascii_digit b)
  pub third : IsTrue (is_ascii_digit c)
  pub value : three_digits a b c ≤ 255

-- a text that begins with what is no escape: a backslash before an octet that is no graphic ASCII, or before a digit that
-- does not begin three digits of a number up to 255
pub data IsWrongEscape : Octets → Type 0 where
  marked : (octet : ℕ) (rest : Octets) → IsFalse (is_ascii_digit octet) → IsFalse (is_ascii_graphic octet) → IsWrongEscape (backslash_octet ∷ octet ∷ rest)
  numbered : (a b c : ℕ) (rest : Octets) → IsTrue (is_ascii_digit a) → ¬ AreDigits a b c → IsWrongEscape (backslash_octet ∷ a ∷ b ∷ c ∷ rest)

-- a text that begins with an octet that no text of a label has
abbrev pub BeginsForeign : Octets → Type 0
BeginsForeign [] = ⊥
BeginsForeign (octet ∷ rest) = IsForeign octet

-- after the spelling of at most that many octets the text goes on like this
pub record GoesOn (most : ℕ) (P : Octets → Type 0) (text : Octets) : Type 0 where
  pub prefix : Octets
  pub rest : Octets
  pub contents : Octets
  pub text_is : text ≡ prefix ++ rest
  pub spells : SpellsLabel prefix contents
  pub fits : length contents ≤ most
  pub next : P rest

-- the text begins with the spelling of one octet more than that many
pub record SpellsMore (most : ℕ) (text : Octets) : Type 0 where
  pub prefix : Octets
  pub rest : Octets
  pub contents : Octets
  pub text_is : text ≡ prefix ++ rest
  pub spells : SpellsLabel prefix contents
  pub more : length contents ≡ suc most

-- A text in its plain spelling: no octet that represents itself is escaped, and no graphic ASCII is in digits.
pub data IsUnescapedText : Octets → Type 0 where
  ended : IsUnescapedText []
  itself : (octet : ℕ) (text : Octets) → IsTrue (is_unescaped octet) → IsUnescapedText text → IsUnescapedText (octet ∷ text)
  backslash : (octet : ℕ) (text : Octets) → IsTrue (is_ascii_graphic octet) → IsFalse (is_unescaped octet) → IsUnescapedText text → IsUnescapedText (backslash_octet ∷ octet ∷ text)
  digits : (a b c : ℕ) (text : Octets) → IsTrue (is_ascii_digit a) → IsTrue (is_ascii_digit b) → IsTrue (is_ascii_digit c) → three_digits a b c ≤ 255 → IsFalse (is_ascii_graphic (three_digits a b c)) → IsUnescapedText text → IsUnescapedText (backslash_octet ∷ a ∷ b ∷ c ∷ text)
