-- The lines of a text, and what they spell.
use Rattle.std.proofs.Common.{◌≡◌, ◌≢◌, ◌<◌, ◌≤◌, ◌+◌, ◌==◌, ℕ, zero, suc, Bool, true, false, cond, List, [], ◌∷◌, ◌++◌, length, get_or, Option, Some, None, refl, sym, ap, ◌∙◌, arith}
use Rattle.std.specs.List.{slice_split}
use Rattle.std.proofs.lemmas.Bool.{eq-eqb}
use Rattle.std.proofs.lemmas.List.Splits.{length-slice_split}
use Rattle.std.proofs.lemmas.List.Sums.{count_by-le-length}
use Rattle.dns_text.specs.Hexadecimal.{SpellsNothing, is_whitespace, spelled, trim, trim_cons}
use Rattle.dns_wire.specs.Steps.{◌>>=◌}
use Rattle.dns_text.specs.Spelled.{all_spelled}
use Rattle.dns_command.specs.Outcomes.{RefusesFor}
use Rattle.dns_command.specs.declared.outcome.PrintError.{PrintError}
use Rattle.dns_command.specs.declared.outcome.PrintError.TheVariants as print
use Rattle.dns_zone.specs.Texts.{ZoneRefusal, lines_of, lines_refusal}

-- ---- one more text

-- a text before others
before_others : Option (List ℕ) → Option (List (List ℕ)) → Option (List (List ℕ))
before_others first others = first >>= (λ m. others >>= (λ ms. Some (m ∷ ms)))

pub spelled_more : (texts : List (List ℕ)) (text : List ℕ) (messages : List (List ℕ)) (m : List ℕ) → all_spelled texts ≡ Some messages → spelled (trim text) ≡ Some m
    → all_spelled (texts ++ text ∷ []) ≡ Some (messages ++ m ∷ [])
spelled_more [] text messages m spells one =
    let none : messages ≡ [] = cc in
    ap (λ (o : Option (List ℕ)). o >>= (λ m. Some (m ∷ []))) one ∙ ap (λ (l : List (List ℕ)). Some (l ++ m ∷ [])) (sym none)
spelled_more (first ∷ texts) text messages m spells one = by (spelled (trim first)) (all_spelled texts) refl spells (λ ms e. spelled_more texts text ms m e one) where
  by : (o : Option (List ℕ)) (p : Option (List (List ℕ))) → all_spelled texts ≡ p → (o >>= (λ m. p >>= (λ ms. Some (m ∷ ms)))) ≡ Some messages
      → ((ms : List (List ℕ)) → all_spelled texts ≡ Some ms → all_spelled (texts ++ text ∷ []) ≡ Some (ms ++ m ∷ []))
      → (o >>= (λ m. all_spelled (texts ++ text ∷ []) >>= (λ ms. Some (m ∷ ms)))) ≡ Some (messages ++ m ∷ [])
  by None p later spells more = absurd cc
  by (Some n) None later spells more = absurd cc
  by (Some n) (Some ms) later spells more =
      let is : n ∷ ms ≡ messages = cc in
      ap (λ (o : Option (List (List ℕ))). o >>= (λ ms. Some (n ∷ ms))) (more ms later) ∙ ap (λ (l : List (List ℕ)). Some (l ++ m ∷ [])) is

pub spelled_long : (texts messages : List (List ℕ)) → all_spelled texts ≡ Some messages → length messages ≡ length texts
spelled_long [] messages spells = let none : messages ≡ [] = cc in ap length none
spelled_long (first ∷ texts) messages spells = by (spelled (trim first)) (all_spelled texts) refl spells (spelled_long texts) where
  by : (o : Option (List ℕ)) (p : Option (List (List ℕ))) → all_spelled texts ≡ p → (o >>= (λ m. p >>= (λ ms. Some (m ∷ ms)))) ≡ Some messages
      → ((ms : List (List ℕ)) → all_spelled texts ≡ Some ms → length ms ≡ length texts) → length messages ≡ suc (length texts)
  by None p later spells more = absurd cc
  by (Some n) None later spells more = absurd cc
  by (Some n) (Some ms) later spells more = let is : n ∷ ms ≡ messages = cc in sym (ap length is) ∙ ap suc (more ms later)

-- ---- lines

pub lines_of_some : (text : List ℕ) → length text ≢ 0 → lines_of text ≡ slice_split (λ c. c == 10) text
lines_of_some [] some = absurd (some refl)
lines_of_some (b ∷ text) some = refl

pub not_none : (n : ℕ) (b : Bool) → b ≡ (n == 0) → b ≡ false → n ≢ 0
not_none n b is differs = λ e. (let clash = sym differs ∙ is ∙ eq-eqb n 0 e in cc)

trimmed_long : (text : List ℕ) → length (trim text) ≤ length text
unfolding trim
trimmed_long [] = omega arith
trimmed_long (b ∷ rest) = by (trim rest) (trimmed_long rest) where
  by : (left : List ℕ) → length left ≤ length rest → length (trim_cons b left) ≤ suc (length rest)
  by (c ∷ left) within = omega (arith, within)
  by [] within = blank (is_whitespace b) where
    blank : (t : Bool) → length (cond t [] (b ∷ [])) ≤ suc (length rest)
    blank true = omega arith
    blank false = omega arith

-- a text has at most one line more than it has octets
pub few_lines : (text : List ℕ) → length (slice_split (λ c. c == 10) (trim text)) ≤ length text + 1
few_lines text = omega (arith, length-slice_split (λ c. c == 10) (trim text), count_by-le-length (λ c. c == 10) (trim text), trimmed_long text)

-- if one of the texts spells nothing, all together do not
pub none_spelled : (texts : List (List ℕ)) (k : ℕ) (text : List ℕ) → k < length texts → get_or texts k text ≡ text → SpellsNothing text → all_spelled texts ≡ None
none_spelled [] k text within is nothing = absurd (omega (arith, within))
none_spelled (first ∷ texts) zero text within is nothing = ap (λ (o : Option (List ℕ)). o >>= (λ m. all_spelled texts >>= (λ ms. Some (m ∷ ms)))) (ap (λ (l : List ℕ). spelled (trim l)) is ∙ nothing)
none_spelled (first ∷ texts) (suc k) text within is nothing = by (spelled (trim first)) (none_spelled texts k text (omega (arith, within)) is nothing) where
  by : (o : Option (List ℕ)) → all_spelled texts ≡ None → (o >>= (λ m. all_spelled texts >>= (λ ms. Some (m ∷ ms)))) ≡ None
  by None later = refl
  by (Some m) later = ap (λ (p : Option (List (List ℕ))). p >>= (λ ms. Some (m ∷ ms))) later

-- a line that is refused, of all lines
pub line_refused : (texts : List (List ℕ)) (k : ℕ) (line : List ℕ) (error : PrintError ZoneRefusal) → k < length texts → line ≡ get_or texts k line → RefusesFor (lines_refusal (all_spelled (line ∷ []))) error
    → RefusesFor (lines_refusal (all_spelled texts)) error
line_refused texts k line print.Memory within is refused = tt
line_refused texts k line (print.Refused r) within is refused = by (spelled (trim line)) refl refused where
  by : (o : Option (List ℕ)) → spelled (trim line) ≡ o → lines_refusal (o >>= (λ m. Some (m ∷ []))) ≡ Some r → lines_refusal (all_spelled texts) ≡ Some r
  by None nothing e = ap lines_refusal (none_spelled texts k line within (sym is) nothing) ∙ e
  by (Some m) spells e = absurd cc
