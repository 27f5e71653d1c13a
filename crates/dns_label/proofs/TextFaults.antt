-- Why the scan of a label stops, in words.
use Rattle.std.proofs.Common.{◌≡◌, ℕ, zero, suc, ◌-◌, ◌≤◌, ◌⊎◌, inl, inr, Bool, true, false, leb, List, [], ◌∷◌, ◌++◌, length, Some, None, Result, Ok, Err, refl, sym, ap, subst, ◌∙◌, arith}
use Rattle.std.specs.Prelude.{◌==◌, ◌&&◌, IsTrue, ◌↔◌}
use Rattle.std.specs.Result.{result_map_both}
use Rattle.std.specs.Char.{is_ascii_digit, is_ascii_graphic}
use Rattle.std.proofs.lemmas.Bool.{and_parts, le-leb, leb-true, eqb-true}
use Rattle.dns_wire.proofs.Spelled.{chosen}
use Rattle.dns_label.specs.declared.text_error.LabelParseError.{LabelParseError}
use Rattle.dns_label.specs.declared.text_error.LabelParseError.TheVariants as parse_errors
use Rattle.dns_label.specs.declared.text_error.LabelSplitError.TheVariants as split_errors
use Rattle.dns_label.specs.declared.text_error.ScanFault.{ScanFault}
use Rattle.dns_label.specs.declared.text_error.ScanFault.TheVariants.{Overlong, CutEscape, WrongEscape}
use Rattle.dns_label.specs.Text.{is_unescaped, three_digits, in_digits, escaped, next_octet, with_octet, then_octets, octets_within, label_scan, parse_error, prefix_label, whole_label, parsed_label, label_at_start, split_label, EndsLabel, SpellsLabel, IsCutEscape, IsWrongEscape, AreDigits, BeginsForeign, GoesOn, SpellsMore}
use Rattle.dns_label.proofs.Scanned.{Found, Read, Next, next_is, next_again, within_step, within_fails, within_full, within_takes, within_again, further}

-- ---- the next octet

digits_cut : (a : ℕ) (text : List ℕ) → IsTrue (is_ascii_digit a) → in_digits a text ≡ Err CutEscape → IsCutEscape (92 ∷ a ∷ text)
unfolding in_digits
digits_cut a [] is e = IsCutEscape.one a is
digits_cut a (b ∷ []) is e = IsCutEscape.two a b is
digits_cut a (b ∷ c ∷ more) is e =
    elim (chosen (is_ascii_digit b && is_ascii_digit c && leb (three_digits a b c) 255) _ _ _ e) [
      | inl fits ↦ absurd (let h = fits.1 in cc)
      | inr wrong ↦ absurd (let h = wrong.1 in cc)
    ]

digits_wrong : (a : ℕ) (text : List ℕ) → IsTrue (is_ascii_digit a) → in_digits a text ≡ Err WrongEscape → IsWrongEscape (92 ∷ a ∷ text)
unfolding in_digits
digits_wrong a [] is e = absurd cc
digits_wrong a (b ∷ []) is e = absurd cc
digits_wrong a (b ∷ c ∷ more) is e =
    elim (chosen (is_ascii_digit b && is_ascii_digit c && leb (three_digits a b c) 255) _ _ _ e) [
      | inl fits ↦ absurd (let h = fits.1 in cc)
      | inr wrong ↦
          IsWrongEscape.numbered a b c more is (λ good.
          let low : leb (three_digits a b c) 255 ≡ true = le-leb (three_digits a b c) 255 good.value in
          let all : (is_ascii_digit b && is_ascii_digit c && leb (three_digits a b c) 255) ≡ true = rw (good.second, good.third, low) refl in
          let h = sym all ∙ wrong.0 in cc)
    ]

digits_room : (a : ℕ) (text : List ℕ) → in_digits a text ≡ Err Overlong → ⊥
unfolding in_digits
digits_room a [] e = cc
digits_room a (b ∷ []) e = cc
digits_room a (b ∷ c ∷ more) e =
    elim (chosen (is_ascii_digit b && is_ascii_digit c && leb (three_digits a b c) 255) _ _ _ e) [
      | inl fits ↦ let h = fits.1 in cc
      | inr wrong ↦ let h = wrong.1 in cc
    ]

escaped_cut : (text : List ℕ) → escaped text ≡ Err CutEscape → IsCutEscape (92 ∷ text)
unfolding escaped
escaped_cut [] e = IsCutEscape.alone
escaped_cut (a ∷ more) e =
    elim (chosen (is_ascii_digit a) _ _ _ e) [
      | inl digit ↦ digits_cut a more digit.0 digit.1
      | inr other ↦
          elim (chosen (is_ascii_graphic a) _ _ _ other.1) [
            | inl graphic ↦ absurd (let h = graphic.1 in cc)
            | inr wrong ↦ absurd (let h = wrong.1 in cc)
          ]
    ]

escaped_wrong : (text : List ℕ) → escaped text ≡ Err WrongEscape → IsWrongEscape (92 ∷ text)
unfolding escaped
escaped_wrong [] e = absurd cc
escaped_wrong (a ∷ more) e =
    elim (chosen (is_ascii_digit a) _ _ _ e) [
      | inl digit ↦ digits_wrong a more digit.0 digit.1
      | inr other ↦
          elim (chosen (is_ascii_graphic a) _ _ _ other.1) [
            | inl graphic ↦ absurd (let h = graphic.1 in cc)
            | inr wrong ↦ IsWrongEscape.marked a more other.0 wrong.0
          ]
    ]

escaped_room : (text : List ℕ) → escaped text ≡ Err Overlong → ⊥
unfolding escaped
escaped_room [] e = cc
escaped_room (a ∷ more) e =
    elim (chosen (is_ascii_digit a) _ _ _ e) [
      | inl digit ↦ digits_room a more digit.1
      | inr other ↦
          elim (chosen (is_ascii_graphic a) _ _ _ other.1) [
            | inl graphic ↦ let h = graphic.1 in cc
            | inr wrong ↦ let h = wrong.1 in cc
          ]
    ]

-- a fault comes from an escape alone
from_escape : (text : List ℕ) (fault : ScanFault) → next_octet text ≡ Err fault → (rest : List ℕ) × (text ≡ 92 ∷ rest) × (escaped rest ≡ Err fault)
unfolding next_octet
from_escape [] fault e = absurd cc
from_escape (octet ∷ rest) fault e =
    elim (chosen (is_unescaped octet) _ _ _ e) [
      | inl plain ↦ absurd (let h = plain.1 in cc)
      | inr other ↦
          elim (chosen (octet == 92) _ _ _ other.1) [
            | inl backslashed ↦ (rest, ap (λ (o : ℕ). o ∷ rest) (eqb-true octet 92 backslashed.0), backslashed.1)
            | inr foreign ↦ absurd (let h = foreign.1 in cc)
          ]
    ]

next_cut : (text : List ℕ) → next_octet text ≡ Err CutEscape → IsCutEscape text
next_cut text e = let f = from_escape text CutEscape e in subst IsCutEscape (sym f.1) (escaped_cut f.0 f.2)

next_wrong : (text : List ℕ) → next_octet text ≡ Err WrongEscape → IsWrongEscape text
next_wrong text e = let f = from_escape text WrongEscape e in subst IsWrongEscape (sym f.1) (escaped_wrong f.0 f.2)

next_room : (text : List ℕ) → next_octet text ≡ Err Overlong → ⊥
next_room text e = let f = from_escape text Overlong e in escaped_room f.0 f.2

no_plain_backslash : is_unescaped 92 ≡ false
unfolding is_unescaped
no_plain_backslash = refl

cut_next : (text : List ℕ) → IsCutEscape text → next_octet text ≡ Err CutEscape
unfolding next_octet escaped in_digits
cut_next text IsCutEscape.alone = rw no_plain_backslash refl
cut_next text (IsCutEscape.one a is) = rw (no_plain_backslash, is) refl
cut_next text (IsCutEscape.two a b is) = rw (no_plain_backslash, is) refl

-- three octets are such digits, or they are not
no_digits : (a b c : ℕ) → ¬ AreDigits a b c → (is_ascii_digit b && is_ascii_digit c && leb (three_digits a b c) 255) ≡ false
no_digits a b c apart = by (is_ascii_digit b && is_ascii_digit c && leb (three_digits a b c) 255) refl where
  by : (test : Bool) → (is_ascii_digit b && is_ascii_digit c && leb (three_digits a b c) 255) ≡ test → (is_ascii_digit b && is_ascii_digit c && leb (three_digits a b c) 255) ≡ false
  by false e = e
  by true e =
      let all = and_parts (is_ascii_digit b && is_ascii_digit c) (leb (three_digits a b c) 255) e in
      let both = and_parts (is_ascii_digit b) (is_ascii_digit c) all.0 in
      absurd (apart (record { second = both.0; third = both.1; value = leb-true (three_digits a b c) 255 all.1 }))

wrong_next : (text : List ℕ) → IsWrongEscape text → next_octet text ≡ Err WrongEscape
unfolding next_octet escaped in_digits
wrong_next text (IsWrongEscape.marked octet rest no_digit dark) = rw (no_plain_backslash, no_digit, dark) refl
wrong_next text (IsWrongEscape.numbered a b c rest is apart) = rw (no_plain_backslash, is, no_digits a b c apart) refl

-- ---- the scan

-- what is said of a fault if that many octets have room
abbrev Fails : ℕ → List ℕ → ScanFault → Type 0
Fails most text Overlong = SpellsMore most text
Fails most text CutEscape = GoesOn most IsCutEscape text
Fails most text WrongEscape = GoesOn most IsWrongEscape text

at_once : (most : ℕ) (text : List ℕ) (fault : ScanFault) → next_octet text ≡ Err fault → Fails most text fault
at_once most text Overlong e = absurd (next_room text e)
at_once most text CutEscape e = record { prefix = []; rest = text; contents = []; text_is = refl; spells = SpellsLabel.ended; fits = omega arith; next = next_cut text e }
at_once most text WrongEscape e = record { prefix = []; rest = text; contents = []; text_is = refl; spells = SpellsLabel.ended; fits = omega arith; next = next_wrong text e }

goes_later : (most : ℕ) (P : List ℕ → Type 0) (text : List ℕ) (octet : ℕ) (more : List ℕ) → next_octet text ≡ Ok (Some (octet, more)) → GoesOn most P more → GoesOn (suc most) P text
goes_later most P text octet more e g =
    let f = further text g.contents g.prefix octet g.rest more (next_is text octet more e) g.text_is g.spells in
    record { prefix = f.0; rest = g.rest; contents = octet ∷ g.contents; text_is = f.1; spells = f.2; fits = omega (arith, g.fits); next = g.next }

later : (most : ℕ) (text : List ℕ) (octet : ℕ) (more : List ℕ) (fault : ScanFault) → next_octet text ≡ Ok (Some (octet, more)) → Fails most more fault → Fails (suc most) text fault
later most text octet more Overlong e g =
    let f = further text g.contents g.prefix octet g.rest more (next_is text octet more e) g.text_is g.spells in
    record { prefix = f.0; rest = g.rest; contents = octet ∷ g.contents; text_is = f.1; spells = f.2; more = ap suc g.more }
later most text octet more CutEscape e g = goes_later most IsCutEscape text octet more e g
later most text octet more WrongEscape e g = goes_later most IsWrongEscape text octet more e g

one_more : (text : List ℕ) (octet : ℕ) (more : List ℕ) → next_octet text ≡ Ok (Some (octet, more)) → SpellsMore zero text
one_more text octet more e =
    let f = further text [] [] octet more more (next_is text octet more e) refl SpellsLabel.ended in
    record { prefix = f.0; rest = more; contents = octet ∷ []; text_is = f.1; spells = f.2; more = refl }

with_fails : (octet : ℕ) (read : Read) (fault : ScanFault) → with_octet octet read ≡ Err fault → read ≡ Err fault
with_fails octet (Ok (others, rest)) fault e = absurd cc
with_fails octet (Err other) fault e = e

same_fault : (a b : ScanFault) → ◌≡◌ {A = Read} (Err a) (Err b) → a ≡ b
same_fault a b e = cc

full_fails : (text : List ℕ) (fault : ScanFault) (found : Found) → next_octet text ≡ found → then_octets (λ _. Err Overlong) text found ≡ Err fault → Fails zero text fault
full_fails text fault (Ok None) is e = absurd cc
full_fails text fault (Ok (Some (octet, more))) is e = subst (Fails zero text) (same_fault Overlong fault e) (one_more text octet more is)
full_fails text fault (Err other) is e = subst (Fails zero text) (same_fault other fault e) (at_once zero text other is)

some_fails : (most : ℕ) (reads : List ℕ → Read) (text : List ℕ) (fault : ScanFault) (found : Found) → ((more : List ℕ) → reads more ≡ Err fault → Fails most more fault) → next_octet text ≡ found → then_octets reads text found ≡ Err fault → Fails (suc most) text fault
some_fails most reads text fault (Ok None) more is e = absurd cc
some_fails most reads text fault (Ok (Some (octet, rest))) more is e = later most text octet rest fault is (more rest (with_fails octet (reads rest) fault e))
some_fails most reads text fault (Err other) more is e = subst (Fails (suc most) text) (same_fault other fault e) (at_once (suc most) text other is)

within_fault : (most : ℕ) (text : List ℕ) (fault : ScanFault) → octets_within most text ≡ Err fault → Fails most text fault
unfolding octets_within
within_fault zero text fault e = full_fails text fault (next_octet text) refl e
within_fault (suc most) text fault e =
    some_fails most (λ more. octets_within most more) text fault (next_octet text) (λ more h. within_fault most more fault h) refl e

-- the scan over a spelling of at most that many octets goes on after it
within_on : (most : ℕ) (text contents rest : List ℕ) (fault : ScanFault) → SpellsLabel text contents → length contents ≤ most → octets_within (most - length contents) rest ≡ Err fault → octets_within most (text ++ rest) ≡ Err fault
within_on most text contents rest fault SpellsLabel.ended fits e =
    let all : most ≡ most - length {A = ℕ} [] = omega arith in
    ap (λ (n : ℕ). octets_within n rest) all ∙ e
within_on zero text contents rest fault (SpellsLabel.itself octet more octets plain spells) fits e = absurd (omega arith)
within_on (suc most) text contents rest fault (SpellsLabel.itself octet more octets plain spells) fits e =
    within_step most (octet ∷ (more ++ rest)) octet (more ++ rest) (next_again _ octet (more ++ rest) (Next.itself plain refl))
    ∙ ap (with_octet octet) (within_on most more octets rest fault spells (omega arith) (ap (λ (n : ℕ). octets_within n rest) (omega arith) ∙ e))
within_on zero text contents rest fault (SpellsLabel.backslash octet more octets graphic no_digit spells) fits e = absurd (omega arith)
within_on (suc most) text contents rest fault (SpellsLabel.backslash octet more octets graphic no_digit spells) fits e =
    within_step most (92 ∷ octet ∷ (more ++ rest)) octet (more ++ rest) (next_again _ octet (more ++ rest) (Next.backslash graphic no_digit refl))
    ∙ ap (with_octet octet) (within_on most more octets rest fault spells (omega arith) (ap (λ (n : ℕ). octets_within n rest) (omega arith) ∙ e))
within_on zero text contents rest fault (SpellsLabel.digits a b c more octets is_a is_b is_c small spells) fits e = absurd (omega arith)
within_on (suc most) text contents rest fault (SpellsLabel.digits a b c more octets is_a is_b is_c small spells) fits e =
    within_step most (92 ∷ a ∷ b ∷ c ∷ (more ++ rest)) (three_digits a b c) (more ++ rest) (next_again _ (three_digits a b c) (more ++ rest) (Next.digits a b c is_a is_b is_c small refl refl))
    ∙ ap (with_octet (three_digits a b c)) (within_on most more octets rest fault spells (omega arith) (ap (λ (n : ℕ). octets_within n rest) (omega arith) ∙ e))

-- one octet more than has room
within_more : (most : ℕ) (text contents rest : List ℕ) → SpellsLabel text contents → length contents ≡ suc most → octets_within most (text ++ rest) ≡ Err Overlong
within_more most text contents rest SpellsLabel.ended long = absurd (omega (arith, long))
within_more zero text contents rest (SpellsLabel.itself octet more octets plain spells) long =
    within_full (octet ∷ (more ++ rest)) octet (more ++ rest) (next_again _ octet (more ++ rest) (Next.itself plain refl))
within_more (suc most) text contents rest (SpellsLabel.itself octet more octets plain spells) long =
    within_step most (octet ∷ (more ++ rest)) octet (more ++ rest) (next_again _ octet (more ++ rest) (Next.itself plain refl))
    ∙ ap (with_octet octet) (within_more most more octets rest spells (omega (arith, long)))
within_more zero text contents rest (SpellsLabel.backslash octet more octets graphic no_digit spells) long =
    within_full (92 ∷ octet ∷ (more ++ rest)) octet (more ++ rest) (next_again _ octet (more ++ rest) (Next.backslash graphic no_digit refl))
within_more (suc most) text contents rest (SpellsLabel.backslash octet more octets graphic no_digit spells) long =
    within_step most (92 ∷ octet ∷ (more ++ rest)) octet (more ++ rest) (next_again _ octet (more ++ rest) (Next.backslash graphic no_digit refl))
    ∙ ap (with_octet octet) (within_more most more octets rest spells (omega (arith, long)))
within_more zero text contents rest (SpellsLabel.digits a b c more octets is_a is_b is_c small spells) long =
    within_full (92 ∷ a ∷ b ∷ c ∷ (more ++ rest)) (three_digits a b c) (more ++ rest) (next_again _ (three_digits a b c) (more ++ rest) (Next.digits a b c is_a is_b is_c small refl refl))
within_more (suc most) text contents rest (SpellsLabel.digits a b c more octets is_a is_b is_c small spells) long =
    within_step most (92 ∷ a ∷ b ∷ c ∷ (more ++ rest)) (three_digits a b c) (more ++ rest) (next_again _ (three_digits a b c) (more ++ rest) (Next.digits a b c is_a is_b is_c small refl refl))
    ∙ ap (with_octet (three_digits a b c)) (within_more most more octets rest spells (omega (arith, long)))

pub scan_overlong : (text : List ℕ) → (label_scan text ≡ Err Overlong) ↔ SpellsMore 63 text
unfolding label_scan
scan_overlong text = (λ e. within_fault 63 text Overlong e, λ g. ap (octets_within 63) g.text_is ∙ within_more 63 g.prefix g.contents g.rest g.spells g.more)

pub scan_cut : (text : List ℕ) → (label_scan text ≡ Err CutEscape) ↔ GoesOn 63 IsCutEscape text
unfolding label_scan
scan_cut text = (
  λ e. within_fault 63 text CutEscape e,
  λ g. ap (octets_within 63) g.text_is ∙ within_on 63 g.prefix g.contents g.rest CutEscape g.spells g.fits (within_fails (63 - length g.contents) g.rest CutEscape (cut_next g.rest g.next)),
)

pub scan_wrong : (text : List ℕ) → (label_scan text ≡ Err WrongEscape) ↔ GoesOn 63 IsWrongEscape text
unfolding label_scan
scan_wrong text = (
  λ e. within_fault 63 text WrongEscape e,
  λ g. ap (octets_within 63) g.text_is ∙ within_on 63 g.prefix g.contents g.rest WrongEscape g.spells g.fits (within_fails (63 - length g.contents) g.rest WrongEscape (wrong_next g.rest g.next)),
)

-- the scan ends before a text like this
ends_before : (P : List ℕ → Type 0) → ((rest : List ℕ) → P rest → EndsLabel rest) → (text : List ℕ) → GoesOn 63 P text → (contents rest : List ℕ) × (label_scan text ≡ Ok (contents, rest)) × P rest
unfolding label_scan
ends_before P ends text g = (g.contents, g.rest, ap (octets_within 63) g.text_is ∙ within_again 63 g.prefix g.contents g.rest g.spells g.fits (ends g.rest g.next), g.next)

goes_on : (P : List ℕ → Type 0) (text contents rest : List ℕ) → label_scan text ≡ Ok (contents, rest) → P rest → GoesOn 63 P text
unfolding label_scan
goes_on P text contents rest e is =
    let t = within_takes 63 text contents rest e in
    record { prefix = t.prefix; rest = rest; contents = contents; text_is = t.text_is; spells = t.spells; fits = t.fits; next = is }

-- ---- whole texts, and the starts of texts

parsed_fault : (fault : ScanFault) (read : Read) → whole_label read ≡ Err (parse_error fault) → read ≡ Err fault
parsed_fault fault (Ok (contents, [])) e = absurd cc
parsed_fault Overlong (Ok (contents, octet ∷ rest)) e = absurd cc
parsed_fault CutEscape (Ok (contents, octet ∷ rest)) e = absurd cc
parsed_fault WrongEscape (Ok (contents, octet ∷ rest)) e = absurd cc
parsed_fault Overlong (Err Overlong) e = refl
parsed_fault Overlong (Err CutEscape) e = absurd cc
parsed_fault Overlong (Err WrongEscape) e = absurd cc
parsed_fault CutEscape (Err Overlong) e = absurd cc
parsed_fault CutEscape (Err CutEscape) e = refl
parsed_fault CutEscape (Err WrongEscape) e = absurd cc
parsed_fault WrongEscape (Err Overlong) e = absurd cc
parsed_fault WrongEscape (Err CutEscape) e = absurd cc
parsed_fault WrongEscape (Err WrongEscape) e = refl

pub parsed_overlong : (text : List ℕ) → (parsed_label text ≡ Err parse_errors.Overlong) ↔ SpellsMore 63 text
parsed_overlong text = (λ e. (scan_overlong text).0 (parsed_fault Overlong (label_scan text) e), λ g. ap whole_label ((scan_overlong text).1 g))

pub parsed_partial : (text : List ℕ) → (parsed_label text ≡ Err parse_errors.PartialEscape) ↔ GoesOn 63 IsCutEscape text
parsed_partial text = (λ e. (scan_cut text).0 (parsed_fault CutEscape (label_scan text) e), λ g. ap whole_label ((scan_cut text).1 g))

pub parsed_escape : (text : List ℕ) → (parsed_label text ≡ Err parse_errors.InvalidEscape) ↔ GoesOn 63 IsWrongEscape text
parsed_escape text = (λ e. (scan_wrong text).0 (parsed_fault WrongEscape (label_scan text) e), λ g. ap whole_label ((scan_wrong text).1 g))

takes_ends : (text contents rest : List ℕ) → label_scan text ≡ Ok (contents, rest) → EndsLabel rest
unfolding label_scan
takes_ends text contents rest e = (within_takes 63 text contents rest e).ends

parsed_stop : (text : List ℕ) (read : Read) → label_scan text ≡ read → whole_label read ≡ Err parse_errors.InvalidChar → GoesOn 63 BeginsForeign text
parsed_stop text (Ok (contents, [])) is e = absurd cc
parsed_stop text (Ok (contents, octet ∷ rest)) is e = goes_on BeginsForeign text contents (octet ∷ rest) is (takes_ends text contents (octet ∷ rest) is)
parsed_stop text (Err Overlong) is e = absurd cc
parsed_stop text (Err CutEscape) is e = absurd cc
parsed_stop text (Err WrongEscape) is e = absurd cc

foreign_ends : (rest : List ℕ) → BeginsForeign rest → EndsLabel rest
foreign_ends [] is = tt
foreign_ends (octet ∷ rest) is = is

stopped_whole : (contents rest : List ℕ) → BeginsForeign rest → whole_label (Ok (contents, rest)) ≡ Err parse_errors.InvalidChar
stopped_whole contents [] is = absurd is
stopped_whole contents (octet ∷ rest) is = refl

pub parsed_character : (text : List ℕ) → (parsed_label text ≡ Err parse_errors.InvalidChar) ↔ GoesOn 63 BeginsForeign text
parsed_character text = (
  λ e. parsed_stop text (label_scan text) refl e,
  λ g. let s = ends_before BeginsForeign foreign_ends text g in ap whole_label s.2 ∙ stopped_whole s.0 s.1 s.3,
)

split_fault_overlong : (read : Read) → label_at_start read ≡ Err split_errors.Overlong → read ≡ Err Overlong
split_fault_overlong (Ok (contents, [])) e = absurd cc
split_fault_overlong (Ok (contents, octet ∷ rest)) e = absurd cc
split_fault_overlong (Err Overlong) e = refl
split_fault_overlong (Err CutEscape) e = absurd cc
split_fault_overlong (Err WrongEscape) e = absurd cc

split_fault_wrong : (read : Read) → label_at_start read ≡ Err split_errors.InvalidEscape → read ≡ Err WrongEscape
split_fault_wrong (Ok (contents, [])) e = absurd cc
split_fault_wrong (Ok (contents, octet ∷ rest)) e = absurd cc
split_fault_wrong (Err Overlong) e = absurd cc
split_fault_wrong (Err CutEscape) e = absurd cc
split_fault_wrong (Err WrongEscape) e = refl

split_fault_short : (text : List ℕ) (read : Read) → label_scan text ≡ read → label_at_start read ≡ Err split_errors.ShortInput → GoesOn 63 IsCutEscape text ⊎ GoesOn 63 (λ rest. rest ≡ []) text
split_fault_short text (Ok (contents, [])) is e = inr (goes_on (λ rest. rest ≡ []) text contents [] is refl)
split_fault_short text (Ok (contents, octet ∷ rest)) is e = absurd cc
split_fault_short text (Err Overlong) is e = absurd cc
split_fault_short text (Err CutEscape) is e = inl ((scan_cut text).0 is)
split_fault_short text (Err WrongEscape) is e = absurd cc

pub split_overlong : (text : List ℕ) → (split_label text ≡ Err split_errors.Overlong) ↔ SpellsMore 63 text
split_overlong text = (λ e. (scan_overlong text).0 (split_fault_overlong (label_scan text) e), λ g. ap label_at_start ((scan_overlong text).1 g))

pub split_escape : (text : List ℕ) → (split_label text ≡ Err split_errors.InvalidEscape) ↔ GoesOn 63 IsWrongEscape text
split_escape text = (λ e. (scan_wrong text).0 (split_fault_wrong (label_scan text) e), λ g. ap label_at_start ((scan_wrong text).1 g))

none_left : (rest : List ℕ) → rest ≡ [] → EndsLabel rest
none_left [] is = tt
none_left (octet ∷ rest) is = absurd cc

short_end : (contents rest : List ℕ) → rest ≡ [] → label_at_start (Ok (contents, rest)) ≡ Err split_errors.ShortInput
short_end contents rest is = rw is refl

pub split_short : (text : List ℕ) → (split_label text ≡ Err split_errors.ShortInput) ↔ (GoesOn 63 IsCutEscape text ⊎ GoesOn 63 (λ rest. rest ≡ []) text)
split_short text = (
  λ e. split_fault_short text (label_scan text) refl e,
  λ g. elim g [
    | inl cut ↦ ap label_at_start ((scan_cut text).1 cut)
    | inr ended ↦ let s = ends_before (λ rest. rest ≡ []) none_left text ended in ap label_at_start s.2 ∙ short_end s.0 s.1 s.3
  ],
)

-- ---- the label at the start of a text that the text's end may end

mapped_fault : (fault : ScanFault) (read : Read) → ◌≡◌ {A = Result (List ℕ × List ℕ) LabelParseError} (result_map_both (λ prefix. prefix) parse_error read) (Err (parse_error fault)) → read ≡ Err fault
mapped_fault fault (Ok found) e = absurd cc
mapped_fault Overlong (Err Overlong) e = refl
mapped_fault Overlong (Err CutEscape) e = absurd cc
mapped_fault Overlong (Err WrongEscape) e = absurd cc
mapped_fault CutEscape (Err Overlong) e = absurd cc
mapped_fault CutEscape (Err CutEscape) e = refl
mapped_fault CutEscape (Err WrongEscape) e = absurd cc
mapped_fault WrongEscape (Err Overlong) e = absurd cc
mapped_fault WrongEscape (Err CutEscape) e = absurd cc
mapped_fault WrongEscape (Err WrongEscape) e = refl

pub prefix_overlong : (text : List ℕ) → (prefix_label text ≡ Err parse_errors.Overlong) ↔ SpellsMore 63 text
prefix_overlong text = (λ e. (scan_overlong text).0 (mapped_fault Overlong (label_scan text) e), λ g. ap (result_map_both (λ prefix. prefix) parse_error) ((scan_overlong text).1 g))

pub prefix_partial : (text : List ℕ) → (prefix_label text ≡ Err parse_errors.PartialEscape) ↔ GoesOn 63 IsCutEscape text
prefix_partial text = (λ e. (scan_cut text).0 (mapped_fault CutEscape (label_scan text) e), λ g. ap (result_map_both (λ prefix. prefix) parse_error) ((scan_cut text).1 g))

pub prefix_escape : (text : List ℕ) → (prefix_label text ≡ Err parse_errors.InvalidEscape) ↔ GoesOn 63 IsWrongEscape text
prefix_escape text = (λ e. (scan_wrong text).0 (mapped_fault WrongEscape (label_scan text) e), λ g. ap (result_map_both (λ prefix. prefix) parse_error) ((scan_wrong text).1 g))
