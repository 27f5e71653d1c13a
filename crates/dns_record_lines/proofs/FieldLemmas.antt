-- The fields of lines.
use Rattle.std.proofs.Common.{◌≡◌, ℕ, ◌/◌, ◌%◌, ◌<◌, Bool, true, false, List, [], ◌∷◌, ◌++◌, slice_index, drop, length, suc, Some, None, refl, sym, ap, subst, ◌∙◌, arith}
use Rattle.std.specs.Prelude.{MatchBool}
use Rattle.std.specs.Int.{w32, to_be_bytes}
use Rattle.std.proofs.lemmas.List.Concat.{flat_map-cons}
use Rattle.dns_wire.specs.Reading.{AreOctets}
use Rattle.dns_text.specs.Hexadecimal.{shown, spelled}
use Rattle.dns_text.proofs.Encoding.{shown_long}
use Rattle.dns_text.proofs.HexadecimalLemmas.{spelled-shown}
use Rattle.dns_message.specs.Forms.{form_owner_key}
use Rattle.dns_message.specs.Order.{SortKey}
use Rattle.dns_record_lines.specs.LineFields.{IsField}
use Rattle.dns_record_lines.specs.RecordLines.{class_and_type, digits, field, record_line}
use Rattle.dns_record_lines.proofs.RecordOrder.{above_space}

-- ---- what is before the first space

-- digits are no space
digits_field : (octets : List ℕ) → AreOctets octets → IsField (digits octets)
digits_field [] are = tt
digits_field (x ∷ octets) are =
    let fits : x < 256 = are 0 in
    let high = above_space (x / 16) (omega (arith, fits)) in
    let low = above_space (x % 16) (omega arith) in
    subst IsField (sym (flat_map-cons shown x octets)) ((λ is. omega (arith, is, high)), ((λ is. omega (arith, is, low)), digits_field octets (λ i. are (suc i))))

-- a text has one front without spaces that ends at a space
one_front : (a b p q : List ℕ) → IsField a → IsField b → a ++ 32 ∷ p ≡ b ++ 32 ∷ q → (a ≡ b) × (p ≡ q)
one_front [] [] p q is are e = (refl, cc)
one_front [] (y ∷ b) p q is are e = absurd (are.0 (ap (λ (l : List ℕ). slice_index l 0) (sym e)))
one_front (x ∷ a) [] p q is are e = absurd (is.0 (ap (λ (l : List ℕ). slice_index l 0) e))
one_front (x ∷ a) (y ∷ b) p q is are e =
    let first : x ≡ y = ap (λ (l : List ℕ). slice_index l 0) e in
    let rest = one_front a b p q is.1 are.1 (ap (drop 1) e) in
    ((λ i. first i ∷ rest.0 i), rest.1)

-- what has a space is not without one
spaced : (a p : List ℕ) → IsField (a ++ 32 ∷ p) → ⊥
spaced [] p is = is.0 refl
spaced (x ∷ a) p is = spaced a p is.1

pub no_field : (text octets rest : List ℕ) → text ≡ field octets rest → IsField text → ⊥
no_field text octets rest is none = spaced (digits octets) rest (subst IsField is none)

pub one_field : (text octets rest front back : List ℕ) → text ≡ field octets rest → AreOctets octets → IsField front → text ≡ front ++ 32 ∷ back → (front ≡ digits octets) × (back ≡ rest)
one_field text octets rest front back is are alone there = one_front front (digits octets) back rest alone (digits_field octets are) (sym there ∙ is)

-- what comes after each field of a record's line
abbrev pub after_data : SortKey → List ℕ
after_data k = digits (to_be_bytes w32 k.ttl)

abbrev pub after_numbers : SortKey → List ℕ
after_numbers k = field k.octets (after_data k)

abbrev pub after_owner : SortKey → List ℕ
after_owner k = field (class_and_type k) (after_numbers k)

pub line_fields : (k : SortKey) → record_line k ≡ field (form_owner_key k) (after_owner k)
unfolding record_line
line_fields k = refl

-- ---- octets in digits

pub even : (octets : List ℕ) → length (digits octets) % 2 ≡ 0
even octets = omega (arith, shown_long octets)

-- what is put for digits is the octets
pub put_back : (text octets new : List ℕ) (is_put : Bool) → text ≡ digits octets → AreOctets octets → MatchBool is_put (spelled text ≡ Some new) (spelled text ≡ None) → (is_put ≡ true) × (new ≡ octets)
put_back text octets new true is are put = let both : Some new ≡ Some octets = sym put ∙ ap spelled is ∙ spelled-shown octets are in (refl, cc)
put_back text octets new false is are none = let clash : Some octets ≡ None = sym (spelled-shown octets are) ∙ ap spelled (sym is) ∙ none in absurd cc
