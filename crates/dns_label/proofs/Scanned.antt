-- What the scan of a label reads, in words, and that what is printed is read.
use Rattle.std.proofs.Common.{◌≡◌, ◌≢◌, ℕ, zero, suc, ◌+◌, ◌-◌, ◌/◌, ◌%◌, ◌<◌, ◌≤◌, inl, inr, true, false, leb, List, [], ◌∷◌, ◌++◌, length, Option, Some, None, Result, Ok, Err, refl, sym, ap, subst, ◌∙◌, append_assoc, arith}
use Rattle.std.specs.Prelude.{◌==◌, ◌&&◌, ◌||◌, not, IsTrue, IsFalse}
use Rattle.std.specs.Result.{result_map_both}
use Rattle.std.specs.Char.{is_ascii_digit, is_ascii_graphic}
use Rattle.std.proofs.lemmas.Bool.Decides.{nat_tests}
use Rattle.std.proofs.lemmas.Bool.{cases_Bool, and_parts, le-leb, leb-true, eqb-true, eqb-false, ne_eqb, agree_below_at}
use Rattle.std.proofs.lemmas.List.{append-nil, length-append}
use Rattle.std.proofs.lemmas.Option.{some_pair_parts}
use Rattle.dns_wire.proofs.Spelled.{chosen}
use Rattle.dns_wire.specs.Reading.{AreOctets}
use Rattle.dns_label.specs.Labels.{FitsLabel}
use Rattle.dns_label.specs.declared.text_error.LabelParseError.{LabelParseError}
use Rattle.dns_label.specs.declared.text_error.LabelParseError.TheVariants as parse_errors
use Rattle.dns_label.specs.declared.text_error.LabelSplitError.TheVariants.{InvalidChar}
use Rattle.dns_label.specs.declared.text_error.LabelSplitError.{LabelSplitError}
use Rattle.dns_label.specs.declared.text_error.ScanFault.{ScanFault}
use Rattle.dns_label.specs.declared.text_error.ScanFault.TheVariants.{Overlong, CutEscape, WrongEscape}
use Rattle.dns_label.specs.Text.{is_unescaped, shown_octet, shown_label, three_digits, in_digits, escaped, next_octet, with_octet, then_octets, octets_within, label_scan, parse_error, prefix_label, whole_label, parsed_label, label_at_start, split_label, IsForeign, EndsLabel, SpellsLabel, IsUnescapedText}

-- ---- the next octet

abbrev pub Found : Type 0
Found = Result (Option (ℕ × List ℕ)) ScanFault

-- the next octet in words
pub data Next (text : List ℕ) (octet : ℕ) (rest : List ℕ) : Type 0 where
  itself : IsTrue (is_unescaped octet) → text ≡ octet ∷ rest → Next text octet rest
  backslash : IsTrue (is_ascii_graphic octet) → IsFalse (is_ascii_digit octet) → text ≡ 92 ∷ octet ∷ rest → Next text octet rest
  digits : (a b c : ℕ) → IsTrue (is_ascii_digit a) → IsTrue (is_ascii_digit b) → IsTrue (is_ascii_digit c) → three_digits a b c ≤ 255 → octet ≡ three_digits a b c → text ≡ 92 ∷ a ∷ b ∷ c ∷ rest → Next text octet rest

found_same : (a b : ℕ) (x y : List ℕ) → ◌≡◌ {A = Found} (Ok (Some (a, x))) (Ok (Some (b, y))) → (a ≡ b) × (x ≡ y)
found_same a b x y e = some_pair_parts a b x y (let h : ◌≡◌ {A = Option (ℕ × List ℕ)} (Some (a, x)) (Some (b, y)) = cc in h)

digits_next : (a : ℕ) (text : List ℕ) (octet : ℕ) (rest : List ℕ) → IsTrue (is_ascii_digit a) → in_digits a text ≡ Ok (Some (octet, rest)) → Next (92 ∷ a ∷ text) octet rest
unfolding in_digits
digits_next a [] octet rest is e = absurd cc
digits_next a (b ∷ []) octet rest is e = absurd cc
digits_next a (b ∷ c ∷ more) octet rest is e =
    elim (chosen (is_ascii_digit b && is_ascii_digit c && leb (three_digits a b c) 255) _ _ _ e) [
      | inl fits ↦
          let all = and_parts (is_ascii_digit b && is_ascii_digit c) (leb (three_digits a b c) 255) fits.0 in
          let both = and_parts (is_ascii_digit b) (is_ascii_digit c) all.0 in
          let same = found_same (three_digits a b c) octet more rest fits.1 in
          digits a b c is both.0 both.1 (leb-true (three_digits a b c) 255 all.1) (sym same.0) (ap (λ (l : List ℕ). 92 ∷ a ∷ b ∷ c ∷ l) same.1)
      | inr wrong ↦ absurd (let h = wrong.1 in cc)
    ]

escaped_next : (text : List ℕ) (octet : ℕ) (rest : List ℕ) → escaped text ≡ Ok (Some (octet, rest)) → Next (92 ∷ text) octet rest
unfolding escaped
escaped_next [] octet rest e = absurd cc
escaped_next (a ∷ more) octet rest e =
    elim (chosen (is_ascii_digit a) _ _ _ e) [
      | inl digit ↦ digits_next a more octet rest digit.0 digit.1
      | inr other ↦
          elim (chosen (is_ascii_graphic a) _ _ _ other.1) [
            | inl graphic ↦
                let same = found_same a octet more rest graphic.1 in
                subst (λ (o : ℕ). Next (92 ∷ a ∷ more) o rest) same.0
                (backslash graphic.0 other.0 (ap (λ (l : List ℕ). 92 ∷ a ∷ l) same.1))
            | inr wrong ↦ absurd (let h = wrong.1 in cc)
          ]
    ]

pub next_is : (text : List ℕ) (octet : ℕ) (rest : List ℕ) → next_octet text ≡ Ok (Some (octet, rest)) → Next text octet rest
unfolding next_octet
next_is [] octet rest e = absurd cc
next_is (a ∷ more) octet rest e =
    elim (chosen (is_unescaped a) _ _ _ e) [
      | inl plain ↦
          let same = found_same a octet more rest plain.1 in
          subst (λ (o : ℕ). Next (a ∷ more) o rest) same.0 (itself plain.0 (ap (λ (l : List ℕ). a ∷ l) same.1))
      | inr other ↦
          elim (chosen (a == 92) _ _ _ other.1) [
            | inl backslashed ↦
                let same : 92 ≡ a = sym (eqb-true a 92 backslashed.0) in
                subst (λ (o : ℕ). Next (o ∷ more) octet rest) same (escaped_next more octet rest backslashed.1)
            | inr foreign ↦ absurd (let h = foreign.1 in cc)
          ]
    ]

-- a backslash does not represent itself, and a digit does
no_plain_backslash : is_unescaped 92 ≡ false
unfolding is_unescaped
no_plain_backslash = refl

plain_digit : (octet : ℕ) → IsTrue (is_ascii_digit octet) → is_unescaped octet ≡ true
unfolding is_unescaped
plain_digit octet is = grind (arith, nat_tests)

pub next_again : (text : List ℕ) (octet : ℕ) (rest : List ℕ) → Next text octet rest → next_octet text ≡ Ok (Some (octet, rest))
unfolding next_octet escaped in_digits
next_again text octet rest (itself plain parts) = ap next_octet parts ∙ rw plain refl
next_again text octet rest (backslash graphic no_digit parts) = ap next_octet parts ∙ rw (no_plain_backslash, no_digit, graphic) refl
next_again text octet rest (digits a b c is_a is_b is_c small value parts) =
    let fits : leb (three_digits a b c) 255 ≡ true = le-leb (three_digits a b c) 255 small in
    ap next_octet parts ∙ rw (no_plain_backslash, is_a, is_b, is_c, fits, value) refl

-- the text after an octet is shorter
pub next_shorter : (text : List ℕ) (octet : ℕ) (rest : List ℕ) → next_octet text ≡ Ok (Some (octet, rest)) → length rest < length text
next_shorter text octet rest e =
    elim (next_is text octet rest e) [
      | itself plain parts ↦ omega (arith, ap length parts)
      | backslash graphic no_digit parts ↦ omega (arith, ap length parts)
      | digits a b c is_a is_b is_c small value parts ↦ omega (arith, ap length parts)
    ]

-- none comes next exactly at the end of a label's text
digits_some : (a : ℕ) (text : List ℕ) → in_digits a text ≡ Ok None → ⊥
unfolding in_digits
digits_some a [] e = cc
digits_some a (b ∷ []) e = cc
digits_some a (b ∷ c ∷ more) e =
    elim (chosen (is_ascii_digit b && is_ascii_digit c && leb (three_digits a b c) 255) _ _ _ e) [
      | inl fits ↦ let h = fits.1 in cc
      | inr wrong ↦ let h = wrong.1 in cc
    ]

escaped_some : (text : List ℕ) → escaped text ≡ Ok None → ⊥
unfolding escaped
escaped_some [] e = cc
escaped_some (a ∷ more) e =
    elim (chosen (is_ascii_digit a) _ _ _ e) [
      | inl digit ↦ digits_some a more digit.1
      | inr other ↦
          elim (chosen (is_ascii_graphic a) _ _ _ other.1) [
            | inl graphic ↦ let h = graphic.1 in cc
            | inr wrong ↦ let h = wrong.1 in cc
          ]
    ]

pub none_ends : (text : List ℕ) → next_octet text ≡ Ok None → EndsLabel text
unfolding next_octet
none_ends [] e = tt
none_ends (octet ∷ rest) e =
    elim (chosen (is_unescaped octet) _ _ _ e) [
      | inl plain ↦ absurd (let h = plain.1 in cc)
      | inr other ↦
          elim (chosen (octet == 92) _ _ _ other.1) [
            | inl backslashed ↦ absurd (escaped_some rest backslashed.1)
            | inr foreign ↦ (other.0, eqb-false octet 92 foreign.0)
          ]
    ]

pub ends_none : (text : List ℕ) → EndsLabel text → next_octet text ≡ Ok None
unfolding next_octet
ends_none [] ends = refl
ends_none (octet ∷ rest) ends =
    let apart : (octet == 92) ≡ false = ne_eqb octet 92 ends.1 in
    rw (ends.0, apart) refl

-- ---- the scan

abbrev pub Read : Type 0
Read = Result (List ℕ × List ℕ) ScanFault

ok_parts : (a b x y : List ℕ) → ◌≡◌ {A = Read} (Ok (a, x)) (Ok (b, y)) → (a ≡ b) × (x ≡ y)
ok_parts a b x y e =
    let h : ◌≡◌ {A = List ℕ × List ℕ} (a, x) (b, y) = cc in
    (ap (λ (p : List ℕ × List ℕ). p.0) h, ap (λ (p : List ℕ × List ℕ). p.1) h)

with_is : (octet : ℕ) (read : Read) (contents rest : List ℕ) → with_octet octet read ≡ Ok (contents, rest) → (others : List ℕ) × (read ≡ Ok (others, rest)) × (contents ≡ octet ∷ others)
with_is octet (Ok (others, left)) contents rest e =
    let same = ok_parts (octet ∷ others) contents left rest e in
    (others, ap (λ (l : List ℕ). Ok (others, l)) same.1, sym same.0)
with_is octet (Err fault) contents rest e = absurd cc

-- what a scan has read in words: a spelling of the contents, and a text after it that ends a label's
pub record Takes (room : ℕ) (text contents rest : List ℕ) : Type 0 where
  pub prefix : List ℕ
  pub text_is : text ≡ prefix ++ rest
  pub spells : SpellsLabel prefix contents
  pub fits : length contents ≤ room
  pub ends : EndsLabel rest

-- a spelling with the spelling of an octet before
pub further : (text octets prefix : List ℕ) (octet : ℕ) (rest more : List ℕ) → Next text octet more → more ≡ prefix ++ rest → SpellsLabel prefix octets → (whole : List ℕ) × (text ≡ whole ++ rest) × SpellsLabel whole (octet ∷ octets)
further text octets prefix octet rest more (itself plain parts) trailing spells =
    (octet ∷ prefix, parts ∙ ap (λ (l : List ℕ). octet ∷ l) trailing, SpellsLabel.itself octet prefix octets plain spells)
further text octets prefix octet rest more (backslash graphic no_digit parts) trailing spells =
    (92 ∷ octet ∷ prefix, parts ∙ ap (λ (l : List ℕ). 92 ∷ octet ∷ l) trailing, SpellsLabel.backslash octet prefix octets graphic no_digit spells)
further text octets prefix octet rest more (digits a b c is_a is_b is_c small value parts) trailing spells =
    (92 ∷ a ∷ b ∷ c ∷ prefix, parts ∙ ap (λ (l : List ℕ). 92 ∷ a ∷ b ∷ c ∷ l) trailing, subst (λ (o : ℕ). SpellsLabel (92 ∷ a ∷ b ∷ c ∷ prefix) (o ∷ octets)) (sym value) (SpellsLabel.digits a b c prefix octets is_a is_b is_c small spells))

stopped_takes : (room : ℕ) (text contents rest : List ℕ) → next_octet text ≡ Ok None → ◌≡◌ {A = Read} (Ok ([], text)) (Ok (contents, rest)) → Takes room text contents rest
stopped_takes room text contents rest none e =
    let same = ok_parts [] contents text rest e in
    record {
      prefix = [];
      text_is = same.1;
      spells = subst (SpellsLabel []) same.0 SpellsLabel.ended;
      fits = omega (arith, ap length same.0);
      ends = subst EndsLabel same.1 (none_ends text none);
    }

full_takes : (text contents rest : List ℕ) (found : Found) → next_octet text ≡ found → then_octets (λ _. Err Overlong) text found ≡ Ok (contents, rest) → Takes zero text contents rest
full_takes text contents rest (Ok None) is e = stopped_takes zero text contents rest is e
full_takes text contents rest (Ok (Some (octet, more))) is e = absurd cc
full_takes text contents rest (Err fault) is e = absurd cc

some_takes : (room : ℕ) (reads : List ℕ → Read) (text contents rest : List ℕ) (found : Found) → ((more others : List ℕ) → reads more ≡ Ok (others, rest) → Takes room more others rest) → next_octet text ≡ found → then_octets reads text found ≡ Ok (contents, rest) → Takes (suc room) text contents rest
some_takes room reads text contents rest (Ok None) later is e = stopped_takes (suc room) text contents rest is e
some_takes room reads text contents rest (Err fault) later is e = absurd cc
some_takes room reads text contents rest (Ok (Some (octet, more))) later is e =
    let w = with_is octet (reads more) contents rest e in
    let t = later more w.0 w.1 in
    let f = further text w.0 t.prefix octet rest more (next_is text octet more is) t.text_is t.spells in
    record {
      prefix = f.0;
      text_is = f.1;
      spells = subst (SpellsLabel f.0) (sym w.2) f.2;
      fits = omega (arith, ap length w.2, t.fits);
      ends = t.ends;
    }

pub within_takes : (room : ℕ) (text contents rest : List ℕ) → octets_within room text ≡ Ok (contents, rest) → Takes room text contents rest
unfolding octets_within
within_takes zero text contents rest e = full_takes text contents rest (next_octet text) refl e
within_takes (suc room) text contents rest e =
    some_takes room (λ more. octets_within room more) text contents rest (next_octet text) (λ more others h. within_takes room more others rest h) refl e

pub scan_takes : (text contents rest : List ℕ) → label_scan text ≡ Ok (contents, rest) → Takes 63 text contents rest
unfolding label_scan
scan_takes text contents rest e = within_takes 63 text contents rest e

-- one step of the scan
pub within_step : (room : ℕ) (text : List ℕ) (octet : ℕ) (more : List ℕ) → next_octet text ≡ Ok (Some (octet, more)) → octets_within (suc room) text ≡ with_octet octet (octets_within room more)
unfolding octets_within
within_step room text octet more e = rw e refl

pub within_ends : (room : ℕ) (text : List ℕ) → next_octet text ≡ Ok None → octets_within room text ≡ Ok ([], text)
unfolding octets_within
within_ends zero text e = rw e refl
within_ends (suc room) text e = rw e refl

pub within_fails : (room : ℕ) (text : List ℕ) (fault : ScanFault) → next_octet text ≡ Err fault → octets_within room text ≡ Err fault
unfolding octets_within
within_fails zero text fault e = rw e refl
within_fails (suc room) text fault e = rw e refl

pub within_full : (text : List ℕ) (octet : ℕ) (more : List ℕ) → next_octet text ≡ Ok (Some (octet, more)) → octets_within zero text ≡ Err Overlong
unfolding octets_within
within_full text octet more e = rw e refl

-- what is spelled is read, if there is room
pub within_again : (room : ℕ) (text contents rest : List ℕ) → SpellsLabel text contents → length contents ≤ room → EndsLabel rest → octets_within room (text ++ rest) ≡ Ok (contents, rest)
within_again room text contents rest SpellsLabel.ended fits ends = within_ends room rest (ends_none rest ends)
within_again zero text contents rest (SpellsLabel.itself octet more octets plain spells) fits ends = absurd (omega arith)
within_again (suc room) text contents rest (SpellsLabel.itself octet more octets plain spells) fits ends =
    within_step room (octet ∷ (more ++ rest)) octet (more ++ rest) (next_again _ octet (more ++ rest) (itself plain refl))
    ∙ ap (with_octet octet) (within_again room more octets rest spells (omega arith) ends)
within_again zero text contents rest (SpellsLabel.backslash octet more octets graphic no_digit spells) fits ends = absurd (omega arith)
within_again (suc room) text contents rest (SpellsLabel.backslash octet more octets graphic no_digit spells) fits ends =
    within_step room (92 ∷ octet ∷ (more ++ rest)) octet (more ++ rest) (next_again _ octet (more ++ rest) (backslash graphic no_digit refl))
    ∙ ap (with_octet octet) (within_again room more octets rest spells (omega arith) ends)
within_again zero text contents rest (SpellsLabel.digits a b c more octets is_a is_b is_c small spells) fits ends = absurd (omega arith)
within_again (suc room) text contents rest (SpellsLabel.digits a b c more octets is_a is_b is_c small spells) fits ends =
    within_step room (92 ∷ a ∷ b ∷ c ∷ (more ++ rest)) (three_digits a b c) (more ++ rest) (next_again _ (three_digits a b c) (more ++ rest) (digits a b c is_a is_b is_c small refl refl))
    ∙ ap (with_octet (three_digits a b c)) (within_again room more octets rest spells (omega arith) ends)

pub scan_again : (text contents rest : List ℕ) → SpellsLabel text contents → length contents < 64 → EndsLabel rest → label_scan (text ++ rest) ≡ Ok (contents, rest)
unfolding label_scan
scan_again text contents rest spells short ends = within_again 63 text contents rest spells (omega arith) ends

-- a text spells one label only, and it ends in one place
pub spelled_apart : (text other a b rest left : List ℕ) → text ++ rest ≡ other ++ left → SpellsLabel text a → SpellsLabel other b → EndsLabel rest → EndsLabel left → (a ≡ b) × (rest ≡ left)
spelled_apart text other a b rest left same of_a of_b ends ends_left =
    let first : octets_within (length a + length b) (text ++ rest) ≡ Ok (a, rest) = within_again (length a + length b) text a rest of_a (omega arith) ends in
    let second : octets_within (length a + length b) (other ++ left) ≡ Ok (b, left) = within_again (length a + length b) other b left of_b (omega arith) ends_left in
    ok_parts a b rest left (sym first ∙ ap (octets_within (length a + length b)) same ∙ second)

pub spelled_once : (text a b : List ℕ) → SpellsLabel text a → SpellsLabel text b → a ≡ b
spelled_once text a b of_a of_b = (spelled_apart text text a b [] [] refl of_a of_b tt tt).0

-- ---- what is printed

-- the three ways in which an octet is printed
pub data Shown (octet : ℕ) (text : List ℕ) : Type 0 where
  itself : IsTrue (is_unescaped octet) → text ≡ octet ∷ [] → Shown octet text
  backslash : IsTrue (is_ascii_graphic octet) → IsFalse (is_unescaped octet) → text ≡ 92 ∷ octet ∷ [] → Shown octet text
  digits : (a b c : ℕ) → IsTrue (is_ascii_digit a) → IsTrue (is_ascii_digit b) → IsTrue (is_ascii_digit c) → three_digits a b c ≡ octet → IsFalse (is_ascii_graphic octet) → text ≡ 92 ∷ a ∷ b ∷ c ∷ [] → Shown octet text

-- the digit of a number below ten
digit_of : (n : ℕ) → n < 10 → IsTrue (is_ascii_digit (48 + n))
digit_of n small = grind (arith, nat_tests)

pub shown_is : (octet : ℕ) → octet < 256 → Shown octet (shown_octet octet)
unfolding shown_octet
shown_is octet small =
    elim (cases_Bool (is_unescaped octet)) [
      | inl plain ↦ Shown.itself plain (rw plain refl)
      | inr marked ↦
          elim (cases_Bool (is_ascii_graphic octet)) [
            | inl graphic ↦ Shown.backslash graphic marked (rw (marked, graphic) refl)
            | inr dark ↦
                Shown.digits (48 + octet / 100) (48 + octet / 10 % 10) (48 + octet % 10)
                (digit_of (octet / 100) (omega arith)) (digit_of (octet / 10 % 10) (omega arith)) (digit_of (octet % 10) (omega arith))
                (omega arith) dark (rw (marked, dark) refl)
          ]
    ]

-- ASCII that is not graphic does not represent itself
graphic_plain : (octet : ℕ) → octet < 256 → IsFalse (is_ascii_graphic octet) → is_unescaped octet ≡ false
unfolding is_unescaped
graphic_plain octet small dark =
    elim (cases_Bool (is_unescaped octet)) [
      | inl plain ↦
          absurd (let t = agree_below_at (λ (o : ℕ). not (is_unescaped o) || is_ascii_graphic o) (λ (o : ℕ). true) 256 octet refl small in
          let h : is_ascii_graphic octet ≡ true = rw plain at t in
          let g = sym dark ∙ h in cc)
      | inr none ↦ none
    ]

marked_digit : (octet : ℕ) → IsFalse (is_unescaped octet) → is_ascii_digit octet ≡ false
marked_digit octet marked =
    elim (cases_Bool (is_ascii_digit octet)) [
      | inl digit ↦ absurd (let h = sym marked ∙ plain_digit octet digit in cc)
      | inr none ↦ none
    ]

-- what is printed spells the label
pub shown_spells : (contents : List ℕ) → AreOctets contents → SpellsLabel (shown_label contents) contents
shown_spells [] octets = SpellsLabel.ended
shown_spells (octet ∷ others) octets =
    let more = shown_spells others (λ (i : ℕ). octets (suc i)) in
    elim (shown_is octet (octets 0)) [
      | Shown.itself plain text ↦ rw text (SpellsLabel.itself octet (shown_label others) others plain more)
      | Shown.backslash graphic marked text ↦ rw text (SpellsLabel.backslash octet (shown_label others) others graphic (marked_digit octet marked) more)
      | Shown.digits a b c is_a is_b is_c value dark text ↦
          rw (text, ← value) (SpellsLabel.digits a b c (shown_label others) others is_a is_b is_c (omega (arith, value, octets 0)) more)
    ]

pub shown_plain : (contents : List ℕ) → AreOctets contents → IsUnescapedText (shown_label contents)
shown_plain [] octets = IsUnescapedText.ended
shown_plain (octet ∷ others) octets =
    let more = shown_plain others (λ (i : ℕ). octets (suc i)) in
    elim (shown_is octet (octets 0)) [
      | Shown.itself plain text ↦ rw text (IsUnescapedText.itself octet (shown_label others) plain more)
      | Shown.backslash graphic marked text ↦ rw text (IsUnescapedText.backslash octet (shown_label others) graphic marked more)
      | Shown.digits a b c is_a is_b is_c value dark text ↦
          rw text (IsUnescapedText.digits a b c (shown_label others) is_a is_b is_c (omega (arith, value, octets 0)) (rw value dark) more)
    ]

-- a text in plain spelling is what is printed of what it spells
pub record Printed (text : List ℕ) : Type 0 where
  pub contents : List ℕ
  pub spells : SpellsLabel text contents
  pub text_is : text ≡ shown_label contents

-- the digits of a number are those that are printed
same_digits : (a b c n : ℕ) → IsTrue (is_ascii_digit a) → IsTrue (is_ascii_digit b) → IsTrue (is_ascii_digit c) → n ≡ three_digits a b c → (48 + n / 100 ≡ a) × (48 + n / 10 % 10 ≡ b) × (48 + n % 10 ≡ c)
same_digits a b c n is_a is_b is_c value =
    let in_a = and_parts (leb 48 a) (leb a 57) is_a in
    let in_b = and_parts (leb 48 b) (leb b 57) is_b in
    let in_c = and_parts (leb 48 c) (leb c 57) is_c in
    let low_a = leb-true 48 a in_a.0 in
    let high_a = leb-true a 57 in_a.1 in
    let low_b = leb-true 48 b in_b.0 in
    let high_b = leb-true b 57 in_b.1 in
    let low_c = leb-true 48 c in_c.0 in
    let high_c = leb-true c 57 in_c.1 in
    (omega arith, omega arith, omega arith)

pub plain_printed : (text : List ℕ) → IsUnescapedText text → Printed text
unfolding shown_octet
plain_printed text IsUnescapedText.ended = record { contents = []; spells = SpellsLabel.ended; text_is = refl }
plain_printed text (IsUnescapedText.itself octet more plain is) =
    let p = plain_printed more is in
    record {
      contents = octet ∷ p.contents;
      spells = SpellsLabel.itself octet more p.contents plain p.spells;
      text_is = rw plain (ap (λ (l : List ℕ). octet ∷ l) p.text_is);
    }
plain_printed text (IsUnescapedText.backslash octet more graphic marked is) =
    let p = plain_printed more is in
    record {
      contents = octet ∷ p.contents;
      spells = SpellsLabel.backslash octet more p.contents graphic (marked_digit octet marked) p.spells;
      text_is = rw (marked, graphic) (ap (λ (l : List ℕ). 92 ∷ octet ∷ l) p.text_is);
    }
plain_printed text (IsUnescapedText.digits a b c more is_a is_b is_c small dark is) =
    let p = plain_printed more is in
    let s = same_digits a b c (three_digits a b c) is_a is_b is_c refl in
    record {
      contents = three_digits a b c ∷ p.contents;
      spells = SpellsLabel.digits a b c more p.contents is_a is_b is_c small p.spells;
      text_is = rw (graphic_plain (three_digits a b c) (omega (arith, small)) dark, dark, s.0, s.1, s.2) (ap (λ (l : List ℕ). 92 ∷ a ∷ b ∷ c ∷ l) p.text_is);
    }

pub plain_shown : (text contents : List ℕ) → IsUnescapedText text → SpellsLabel text contents → text ≡ shown_label contents
plain_shown text contents is spells =
    let p = plain_printed text is in
    p.text_is ∙ ap shown_label (spelled_once text p.contents contents p.spells spells)

-- ---- a scan under way

-- what is read, with octets before that were read before
abbrev pub in_prefix : List ℕ → Read → Read
in_prefix prefix (Ok (others, rest)) = Ok (prefix ++ others, rest)
in_prefix prefix (Err fault) = Err fault

one_in_prefix : (prefix : List ℕ) (octet : ℕ) (read : Read) → in_prefix prefix (with_octet octet read) ≡ in_prefix (prefix ++ octet ∷ []) read
one_in_prefix prefix octet (Ok (others, rest)) = ap (λ (l : List ℕ). Ok (l, rest)) (sym (append_assoc prefix (octet ∷ []) others))
one_in_prefix prefix octet (Err fault) = refl

pub none_in_prefix : (read : Read) → in_prefix [] read ≡ read
none_in_prefix (Ok (others, rest)) = refl
none_in_prefix (Err fault) = refl

-- these octets are read, and this text is left
pub record Underway (text label rest : List ℕ) : Type 0 where
  pub fits : length label ≤ 63
  pub left : label_scan text ≡ in_prefix label (octets_within (63 - length label) rest)

pub begun : (text label : List ℕ) → label ≡ [] → Underway text label text
unfolding label_scan
begun text label e = rw e (record { fits = omega arith; left = sym (none_in_prefix (octets_within 63 text)) })

pub gone_on : (text label rest next more : List ℕ) (octet : ℕ) → Underway text label rest → next_octet rest ≡ Ok (Some (octet, more)) → length label < 63 → next ≡ label ++ octet ∷ [] → Underway text next more
gone_on text label rest next more octet way read room e =
    let long : length next ≡ length label + 1 = omega (arith, ap length e, length-append label (octet ∷ [])) in
    let one : 63 - length label ≡ suc (63 - length next) = omega (arith, long) in
    record {
      fits = omega (arith, long);
      left =
          way.left ∙ ap (λ (n : ℕ). in_prefix label (octets_within n rest)) one
          ∙ ap (in_prefix label) (within_step (63 - length next) rest octet more read)
          ∙ one_in_prefix label octet (octets_within (63 - length next) more)
          ∙ ap (λ (l : List ℕ). in_prefix l (octets_within (63 - length next) more)) (sym e);
    }

pub ended_scan : (text label rest : List ℕ) → Underway text label rest → next_octet rest ≡ Ok None → label_scan text ≡ Ok (label, rest)
ended_scan text label rest way read =
    way.left ∙ ap (in_prefix label) (within_ends (63 - length label) rest read) ∙ ap (λ (l : List ℕ). Ok (l, rest)) (append-nil label)

pub failed_scan : (text label rest : List ℕ) (fault : ScanFault) → Underway text label rest → next_octet rest ≡ Err fault → label_scan text ≡ Err fault
failed_scan text label rest fault way read = way.left ∙ ap (in_prefix label) (within_fails (63 - length label) rest fault read)

pub full_scan : (text label rest more : List ℕ) (octet : ℕ) → Underway text label rest → next_octet rest ≡ Ok (Some (octet, more)) → 63 ≤ length label → label_scan text ≡ Err Overlong
full_scan text label rest more octet way read full =
    let none : 63 - length label ≡ zero = omega arith in
    way.left ∙ ap (λ (n : ℕ). in_prefix label (octets_within n rest)) none ∙ ap (in_prefix label) (within_full rest octet more read)

-- ---- whole texts, and the prefixes of texts

whole_is : (read : Read) (contents : List ℕ) → whole_label read ≡ Ok contents → read ≡ Ok (contents, [])
whole_is (Ok (found, [])) contents e = ap (λ (l : List ℕ). Ok (l, [])) (let h : found ≡ contents = cc in h)
whole_is (Ok (found, octet ∷ rest)) contents e = absurd cc
whole_is (Err fault) contents e = absurd cc

pub parsed_takes : (text contents : List ℕ) → parsed_label text ≡ Ok contents → SpellsLabel text contents × FitsLabel contents
parsed_takes text contents e =
    let t = scan_takes text contents [] (whole_is (label_scan text) contents e) in
    (subst (λ (l : List ℕ). SpellsLabel l contents) (sym (t.text_is ∙ append-nil t.prefix)) t.spells, omega (arith, t.fits))

pub parsed_again : (text contents : List ℕ) → SpellsLabel text contents → FitsLabel contents → parsed_label text ≡ Ok contents
parsed_again text contents spells short =
    ap (λ (l : List ℕ). whole_label (label_scan l)) (sym (append-nil text)) ∙ ap whole_label (scan_again text contents [] spells short tt)

mapped_is : (read : Read) (contents rest : List ℕ) → ◌≡◌ {A = Result (List ℕ × List ℕ) LabelParseError} (result_map_both (λ prefix. prefix) parse_error read) (Ok (contents, rest)) → read ≡ Ok (contents, rest)
mapped_is (Ok prefix) contents rest e = ap Ok (let h : prefix ≡ (contents, rest) = cc in h)
mapped_is (Err fault) contents rest e = absurd cc

pub prefix_takes : (text contents rest : List ℕ) → prefix_label text ≡ Ok (contents, rest) → Takes 63 text contents rest
prefix_takes text contents rest e = scan_takes text contents rest (mapped_is (label_scan text) contents rest e)

pub prefix_again : (text contents rest : List ℕ) → SpellsLabel text contents → FitsLabel contents → EndsLabel rest → prefix_label (text ++ rest) ≡ Ok (contents, rest)
prefix_again text contents rest spells short ends = ap (result_map_both (λ prefix. prefix) parse_error) (scan_again text contents rest spells short ends)

abbrev Prefix : Type 0
Prefix = Result (List ℕ × List ℕ) LabelSplitError

prefix_parts : (a b x y : List ℕ) → ◌≡◌ {A = Prefix} (Ok (a, x)) (Ok (b, y)) → (a ≡ b) × (x ≡ y)
prefix_parts a b x y e =
    let h : ◌≡◌ {A = List ℕ × List ℕ} (a, x) (b, y) = cc in
    (ap (λ (p : List ℕ × List ℕ). p.0) h, ap (λ (p : List ℕ × List ℕ). p.1) h)

prefix_is : (read : Read) (contents rest : List ℕ) → label_at_start read ≡ Ok (contents, rest) → (read ≡ Ok (contents, rest)) × (rest ≢ [])
prefix_is (Ok (found, [])) contents rest e = absurd cc
prefix_is (Err fault) contents rest e = absurd cc
prefix_is (Ok (found, octet ∷ left)) contents rest e =
    let same = prefix_parts found contents (octet ∷ left) rest e in
    (ap (λ (l : List ℕ). Ok (l, octet ∷ left)) same.0 ∙ ap (λ (l : List ℕ). Ok (contents, l)) same.1, λ none. let h = same.1 ∙ none in cc)

pub split_takes : (text contents rest : List ℕ) → split_label text ≡ Ok (contents, rest) → (prefix : List ℕ) × (text ≡ prefix ++ rest) × SpellsLabel prefix contents × FitsLabel contents × (rest ≢ []) × EndsLabel rest
split_takes text contents rest e =
    let f = prefix_is (label_scan text) contents rest e in
    let t = scan_takes text contents rest f.0 in
    (t.prefix, t.text_is, t.spells, omega (arith, t.fits), f.1, t.ends)

pub split_again : (text contents rest : List ℕ) (octet : ℕ) → SpellsLabel text contents → FitsLabel contents → IsForeign octet → split_label (text ++ octet ∷ rest) ≡ Ok (contents, octet ∷ rest)
split_again text contents rest octet spells short foreign = ap label_at_start (scan_again text contents (octet ∷ rest) spells short foreign)

-- a text that may go on is never refused for an octet that no text of a label has, and no prefix of one is
prefix_never_invalid : (read : Read) → label_at_start read ≢ Err InvalidChar
prefix_never_invalid (Ok (found, [])) e = cc
prefix_never_invalid (Ok (found, octet ∷ rest)) e = cc
prefix_never_invalid (Err Overlong) e = cc
prefix_never_invalid (Err CutEscape) e = cc
prefix_never_invalid (Err WrongEscape) e = cc

pub split_never : (text : List ℕ) → split_label text ≢ Err InvalidChar
split_never text = prefix_never_invalid (label_scan text)

mapped_never : (read : Read) → ◌≢◌ {A = Result (List ℕ × List ℕ) LabelParseError} (result_map_both (λ prefix. prefix) parse_error read) (Err parse_errors.InvalidChar)
mapped_never (Ok prefix) e = cc
mapped_never (Err Overlong) e = cc
mapped_never (Err CutEscape) e = cc
mapped_never (Err WrongEscape) e = cc

pub prefix_never : (text : List ℕ) → prefix_label text ≢ Err parse_errors.InvalidChar
prefix_never text = mapped_never (label_scan text)
