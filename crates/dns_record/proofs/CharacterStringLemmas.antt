-- Strings one after another, as a test and in words.
use Rattle.std.proofs.Common.{◌≡◌, ℕ, zero, suc, ◌<◌, ◌^◌, Bool, true, false, not, ltb, List, [], ◌∷◌, ◌++◌, length, Option, Some, None, refl, ap, ◌∙◌, arith}
use Rattle.std.specs.Prelude.{◌&&◌}
use Rattle.std.proofs.lemmas.Bool.{le-ltb, ltb-false}
use Rattle.std.proofs.lemmas.List.{length-append}
use Rattle.dns_record.specs.InPlace.{AreCharacterStrings}
use Rattle.dns_record.specs.CharacterStrings.{character_string, after_string, character_strings_within, is_character_strings, is_txt_data, character_strings_octets}
use Rattle.dns_record.proofs.Places.{text_spelled, text_read}

record Within (bytes : List ℕ) : Type 0 where
  strings : List (List ℕ)
  is : bytes ≡ character_strings_octets strings

-- ---- the test, in words

within_is : (steps : ℕ) (bytes : List ℕ) → character_strings_within steps bytes ≡ true → Within bytes
unfolding character_strings_within
within_is zero bytes e = absurd cc
within_is (suc steps) [] e = record { strings = []; is = refl }
within_is (suc steps) (size ∷ rest) e = by (character_string (size ∷ rest)) refl e (λ more h. within_is steps more h) where
  by : (read : Option (List ℕ × List ℕ)) → character_string (size ∷ rest) ≡ read → after_string (λ more. character_strings_within steps more) read ≡ true → ((more : List ℕ) → character_strings_within steps more ≡ true → Within more) → Within (size ∷ rest)
  by None read h later = absurd cc
  by (Some (found, more)) read h later =
      let w = later more h in
      record { strings = found ∷ w.strings; is = text_spelled (size ∷ rest) found more read ∙ ap (λ (l : List ℕ). length found ∷ (found ++ l)) w.is }

-- the first string, and the others
first_is : (bytes : List ℕ) → is_character_strings bytes ≡ true → (first : List ℕ) × (others : List (List ℕ)) × (bytes ≡ character_strings_octets (first ∷ others))
unfolding is_character_strings
first_is [] e = absurd cc
first_is (size ∷ rest) e = by w.strings w.is where
  w : Within (size ∷ rest)
  w = within_is (suc (length (size ∷ rest))) (size ∷ rest) e

  by : (strings : List (List ℕ)) → size ∷ rest ≡ character_strings_octets strings → (first : List ℕ) × (others : List (List ℕ)) × (size ∷ rest ≡ character_strings_octets (first ∷ others))
  by [] is = absurd cc
  by (first ∷ others) is = (first, others, is)

pub character_strings_are : (bytes : List ℕ) → is_txt_data bytes ≡ true → AreCharacterStrings bytes
unfolding is_txt_data
character_strings_are bytes e =
    let parts = and_parts (not (ltb 65535 (length bytes))) (is_character_strings bytes) e in
    let found = first_is bytes parts.1 in
    record { first = found.0; others = found.1; is = found.2; short = few (ltb 65535 (length bytes)) refl parts.0 } where
      and_parts : (a b : Bool) → (a && b) ≡ true → (a ≡ true) × (b ≡ true)
      and_parts true b h = (refl, h)
      and_parts false b h = absurd cc

      few : (b : Bool) → ltb 65535 (length bytes) ≡ b → not b ≡ true → length bytes < 2 ^ 16
      few true le h = absurd cc
      few false le h = omega (arith, ltb-false 65535 (length bytes) le)

-- ---- and the other way

strings_within : (strings : List (List ℕ)) (steps : ℕ) → length (character_strings_octets strings) < steps → character_strings_within steps (character_strings_octets strings) ≡ true
unfolding character_strings_within
strings_within strings zero enough = absurd (omega arith)
strings_within [] (suc steps) enough = refl
strings_within (found ∷ others) (suc steps) enough =
    let read = text_read found (character_strings_octets others) in
    ap (after_string (λ more. character_strings_within steps more)) read ∙ strings_within others steps (omega (arith, enough, length-append found (character_strings_octets others)))

pub are_character_strings : (bytes : List ℕ) → AreCharacterStrings bytes → is_txt_data bytes ≡ true
unfolding is_txt_data is_character_strings
are_character_strings bytes t =
    let few : ltb 65535 (length bytes) ≡ false = le-ltb _ _ (omega (arith, t.short)) in
    let good : is_character_strings bytes ≡ true = ap is_character_strings t.is ∙ strings_within (t.first ∷ t.others) (suc (length (character_strings_octets (t.first ∷ t.others)))) (omega arith) in
    rw (few, good) refl
