-- Strings that are read one by one, of all the octets.
use Rattle.std.proofs.Common.{◌≡◌, ℕ, zero, suc, ◌≤◌, true, List, [], ◌∷◌, length, Option, Some, None, refl, sym, ap, ◌∙◌, arith}
use Rattle.std.specs.Prelude.{◌↔◌, IsTrue}
use Rattle.std.specs.Cmp.Lexicographic.{pointwise, pointwise_decides, bytes_decides}
use Rattle.std.specs.Cmp.Derive.Mapped.{pointwise-map}
use Rattle.std.specs.Str.{str_to_ascii_lowercase}
use Rattle.std.proofs.lemmas.List.{length-append}
use Rattle.dns_wire.specs.Names.{lowered}
use Rattle.dns_record.specs.CharacterStrings.{character_string, is_txt_data, character_strings_octets}
use Rattle.dns_record.proofs.Places.{text_read}
use Rattle.dns_record.proofs.TestedOctets.{text_shorter}
use Rattle.dns_record.proofs.CharacterStringLemmas.{character_strings_are}
use Rattle.dns_record.specs.Strings.{then_strings, strings_within, strings_in, same_strings, lowered_from_same}

-- ---- the strings of octets

strings_again : (steps : ℕ) (strings : List (List ℕ)) → length (character_strings_octets strings) ≤ steps → strings_within steps (character_strings_octets strings) ≡ strings
unfolding strings_within
strings_again zero [] enough = refl
strings_again (suc steps) [] enough = refl
strings_again zero (found ∷ others) enough = absurd (omega arith)
strings_again (suc steps) (found ∷ others) enough =
    ap (then_strings (λ more. strings_within steps more)) (text_read found (character_strings_octets others))
    ∙ ap (λ (l : List (List ℕ)). found ∷ l) (strings_again steps others (omega (arith, enough, length-append found (character_strings_octets others))))

pub strings_read : (strings : List (List ℕ)) → strings_in (character_strings_octets strings) ≡ strings
unfolding strings_in
strings_read strings = strings_again (length (character_strings_octets strings)) strings (omega arith)

-- TXT data are the octets of their strings
pub character_strings_whole : (bytes : List ℕ) → is_txt_data bytes ≡ true → character_strings_octets (strings_in bytes) ≡ bytes
character_strings_whole bytes e =
    let t = character_strings_are bytes e in
    ap character_strings_octets (ap strings_in t.is ∙ strings_read (t.first ∷ t.others)) ∙ sym t.is

-- of which there is one
pub character_strings_some : (bytes : List ℕ) → is_txt_data bytes ≡ true → (strings_in bytes ≡ []) → ⊥
character_strings_some bytes e none =
    let t = character_strings_are bytes e in
    let h : t.first ∷ t.others ≡ [] = sym (ap strings_in t.is ∙ strings_read (t.first ∷ t.others)) ∙ none in
    absurd cc

-- and no more than there are octets
many_octets : (strings : List (List ℕ)) → length strings ≤ length (character_strings_octets strings)
many_octets [] = omega arith
many_octets (found ∷ others) = omega (arith, many_octets others, length-append found (character_strings_octets others))

pub character_strings_few : (bytes : List ℕ) → is_txt_data bytes ≡ true → length (strings_in bytes) ≤ 65535
character_strings_few bytes e = omega (arith, many_octets (strings_in bytes), ap length (character_strings_whole bytes e), (character_strings_are bytes e).short)

-- ---- the first of them

-- more steps than octets change nothing
enough_steps : (steps others : ℕ) (bytes : List ℕ) → length bytes ≤ steps → length bytes ≤ others → strings_within steps bytes ≡ strings_within others bytes
unfolding strings_within
enough_steps zero zero bytes enough also = refl
enough_steps zero (suc others) [] enough also = refl
enough_steps zero (suc others) (size ∷ more) enough also = absurd (omega arith)
enough_steps (suc steps) zero [] enough also = refl
enough_steps (suc steps) zero (size ∷ more) enough also = absurd (omega arith)
enough_steps (suc steps) (suc others) bytes enough also = by (character_string bytes) refl (λ rest h k. enough_steps steps others rest h k) where
  by : (read : Option (List ℕ × List ℕ)) → character_string bytes ≡ read → ((rest : List ℕ) → length rest ≤ steps → length rest ≤ others → strings_within steps rest ≡ strings_within others rest)
      → then_strings (λ more. strings_within steps more) read ≡ then_strings (λ more. strings_within others more) read
  by None e again = refl
  by (Some (found, rest)) e again =
      let less = text_shorter bytes found rest e in
      ap (λ (l : List (List ℕ)). found ∷ l) (again rest (omega arith) (omega arith))

pub first_string : (bytes found rest : List ℕ) → character_string bytes ≡ Some (found, rest) → strings_in bytes ≡ found ∷ strings_in rest
unfolding strings_in strings_within
first_string [] found rest e = absurd cc
first_string (size ∷ more) found rest e =
    let less = text_shorter (size ∷ more) found rest e in
    ap (then_strings (λ (l : List ℕ). strings_within (length more) l)) e
    ∙ ap (λ (l : List (List ℕ)). found ∷ l) (enough_steps (length more) (length rest) rest (omega arith) (omega arith))

pub no_string : (bytes : List ℕ) → character_string bytes ≡ None → strings_in bytes ≡ []
unfolding strings_in strings_within
no_string [] e = refl
no_string (size ∷ more) e = ap (then_strings (λ (l : List ℕ). strings_within (length more) l)) e

-- ---- equality

pub same_is : (a b : List (List ℕ)) → IsTrue (same_strings a b) ↔ (lowered a ≡ lowered b)
same_is a b = (lowered_from_same a b, λ e. sym (pointwise-map str_to_ascii_lowercase (pointwise _) a b) ∙ (pointwise_decides bytes_decides (lowered a) (lowered b)).1 e)
