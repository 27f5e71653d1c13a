-- The text of a normal form is read back.
use Rattle.std.proofs.Common.{◌≡◌, ℕ, suc, ◌+◌, ◌*◌, ◌/◌, ◌%◌, ◌<◌, inl, inr, true, false, List, [], ◌∷◌, ◌++◌, length, slice_index, codes, flat_map, refl, sym, ap, subst, ◌∙◌, length-append, arith}
use Rattle.std.specs.List.{AllByRecursion}
use Rattle.std.proofs.lemmas.Bool.{agree_below_at}
use Rattle.std.proofs.lemmas.List.Concat.{flat_map-cons}
use Rattle.dns_text.specs.Hexadecimal.{IsWhitespace, Spells, Trimmed, is_whitespace, line, shown, spelled}
use Rattle.dns_wire.specs.Reading.{AreOctets}
use Rattle.dns_text.proofs.HexadecimalLemmas.{spelled-shown}
use Rattle.dns_text.proofs.TrimLemmas.{trims_one}

digit_solid : (n : ℕ) → n < 16 → is_whitespace (slice_index (codes "0123456789abcdef") n) ≡ false
digit_solid n below = agree_below_at (λ (k : ℕ). is_whitespace (slice_index (codes "0123456789abcdef") k)) (λ (k : ℕ). false) 16 n refl below

shown_solid : (octets : List ℕ) → AreOctets octets → AllByRecursion (λ b. is_whitespace b ≡ false) (flat_map shown octets)
shown_solid [] are = tt
shown_solid (b ∷ octets) are =
    let fits : b < 256 = are 0 in
    subst (AllByRecursion (λ b. is_whitespace b ≡ false)) (sym (flat_map-cons shown b octets)) (digit_solid (b / 16) (omega (arith, fits)), (digit_solid (b % 16) (omega arith), shown_solid octets (λ i. are (suc i))))

last_solid : (before : List ℕ) (last : ℕ) → AllByRecursion (λ b. is_whitespace b ≡ false) (before ++ last ∷ []) → is_whitespace last ≡ false
last_solid [] last all = all.0
last_solid (b ∷ before) last all = last_solid before last all.1

blank_is : (b : ℕ) → IsWhitespace b → is_whitespace b ≡ true
blank_is b (inl e) = ap is_whitespace e
blank_is b (inr (inl e)) = ap is_whitespace e
blank_is b (inr (inr (inl e))) = ap is_whitespace e
blank_is b (inr (inr (inr e))) = ap is_whitespace e

pub line_back : (octets : List ℕ) → AreOctets octets → Spells (line octets) octets
line_back octets are =
    let trimmed : Trimmed (line octets) (flat_map shown octets) = record {
      whitespace = 10 ∷ [];
      text_is = refl;
      blank = (inr (inr (inr refl)), tt);
      solid = λ before last is blank. (
          let none = last_solid before last (subst (AllByRecursion (λ b. is_whitespace b ≡ false)) is (shown_solid octets are)) in
          let clash = sym none ∙ blank_is last blank in absurd cc
          );
    } in
    ap spelled (sym (trims_one (line octets) (flat_map shown octets) trimmed)) ∙ spelled-shown octets are

shown_long : (octets : List ℕ) → length (flat_map shown octets) ≡ 2 * length octets
shown_long [] = refl
shown_long (b ∷ octets) = omega (arith, ap length (flat_map-cons shown b octets), shown_long octets)

pub line_long : (octets : List ℕ) → length (line octets) ≡ 2 * length octets + 1
line_long octets = omega (arith, shown_long octets, length-append (flat_map shown octets) (10 ∷ []))
