-- Why the scan of a name stops, in words.
use Rattle.std.proofs.Common.{◌≡◌, ◌≢◌, ◌⊎◌, ℕ, zero, suc, ◌+◌, ◌<◌, ◌≤◌, inl, inr, Bool, true, false, cond, List, [], ◌∷◌, ◌++◌, length, Result, Ok, Err, refl, sym, ap, subst, ◌∙◌, append_assoc, arith}
use Rattle.std.specs.Prelude.{◌==◌, ◌↔◌, ⊤}
use Rattle.std.specs.List.{AllByRecursion}
use Rattle.std.specs.Result.{result_map_both}
use Rattle.std.proofs.lemmas.Bool.{le-leb, leb-true, eqb-true, eqb-false, ne_eqb}
use Rattle.std.proofs.lemmas.List.{append-nil, length-append}
use Rattle.dns_wire.specs.Names.{labels_wire, IsLabel}
use Rattle.dns_wire.proofs.Spelled.{chosen}
use Rattle.dns_wire.proofs.Walk.{labels_wire-append}
use Rattle.dns_label.specs.Text.{prefix_label, EndsLabel, GoesOn, IsCutEscape, IsWrongEscape, SpellsLabel, SpellsMore}
use Rattle.dns_label.specs.declared.text_error.LabelParseError.{LabelParseError}
use Rattle.dns_label.specs.declared.text_error.LabelParseError.TheVariants as label_errors
use Rattle.dns_label.proofs.Scanned.{prefix_never}
use Rattle.dns_label.proofs.TextFaults.{prefix_overlong, prefix_partial, prefix_escape}
use Rattle.dns_name.specs.declared.text_error.NameParseError.{NameParseError}
use Rattle.dns_name.specs.declared.text_error.NameParseError.TheVariants as errors
use Rattle.dns_name.specs.declared.text_error.NameSplitError.{NameSplitError}
use Rattle.dns_name.specs.declared.text_error.NameSplitError.TheVariants as split_errors
use Rattle.dns_name.specs.Text.{of_label, fits, label_prefix, after_dot, after_label, parts_within, name_scan, at_end, whole_name_text, parsed_name, of_prefix, at_octet, name_at_start, split_name, NoDot, EndsName, SpellsLabels, AfterLabels, NextLabel, EmptyNext, NameHasRoom, LongNext, RelativeNext, InvalidNext}
use Rattle.dns_name.proofs.NameTexts.{Label, Read, label_takes, label_again, label_shorter, dot_foreign, Underway, stepped, failed_scan, overlong_scan, empty_scan, ended_scan}

-- ---- one label

-- why the scan of a name stops after these labels, if this text is left
abbrev Stop : NameParseError → List (List ℕ) → List ℕ → Type 0
Stop errors.OverlongLabel labels rest = SpellsMore 63 rest
Stop errors.PartialEscape labels rest = GoesOn 63 IsCutEscape rest
Stop errors.InvalidEscape labels rest = GoesOn 63 IsWrongEscape rest
Stop errors.EmptyLabel labels rest = EmptyNext labels rest
Stop errors.Overlong labels rest = NextLabel (λ label left. (next : List ℕ) × (left ≡ 46 ∷ next) × ¬ NameHasRoom labels label) rest
Stop errors.InvalidChar labels rest = ⊥
Stop errors.Relative labels rest = ⊥

abbrev as_label : Result (List ℕ × List ℕ) LabelParseError → Label
as_label read = result_map_both (λ prefix. prefix) of_label read

overlong_label : (text : List ℕ) → SpellsMore 63 text → label_prefix text ≡ Err errors.OverlongLabel
overlong_label text g = ap as_label ((prefix_overlong text).1 g)

cut_label : (text : List ℕ) → GoesOn 63 IsCutEscape text → label_prefix text ≡ Err errors.PartialEscape
cut_label text g = ap as_label ((prefix_partial text).1 g)

wrong_label : (text : List ℕ) → GoesOn 63 IsWrongEscape text → label_prefix text ≡ Err errors.InvalidEscape
wrong_label text g = ap as_label ((prefix_escape text).1 g)

same_error : (a b : NameParseError) → ◌≡◌ {A = Label} (Err a) (Err b) → a ≡ b
same_error a b e = cc

label_stops : (labels : List (List ℕ)) (text : List ℕ) (error : NameParseError) (read : Result (List ℕ × List ℕ) LabelParseError) → prefix_label text ≡ read → as_label read ≡ Err error → Stop error labels text
label_stops labels text error (Ok found) is e = absurd cc
label_stops labels text error (Err label_errors.Overlong) is e = subst (λ (x : NameParseError). Stop x labels text) (same_error errors.OverlongLabel error e) ((prefix_overlong text).0 is)
label_stops labels text error (Err label_errors.PartialEscape) is e = subst (λ (x : NameParseError). Stop x labels text) (same_error errors.PartialEscape error e) ((prefix_partial text).0 is)
label_stops labels text error (Err label_errors.InvalidEscape) is e = subst (λ (x : NameParseError). Stop x labels text) (same_error errors.InvalidEscape error e) ((prefix_escape text).0 is)
label_stops labels text error (Err label_errors.InvalidChar) is e = absurd (prefix_never text is)

-- ---- labels before

record After (before : List (List ℕ)) (P : List (List ℕ) → List ℕ → Type 0) (text : List ℕ) : Type 0 where
  prefix : List ℕ
  rest : List ℕ
  others : List (List ℕ)
  text_is : text ≡ prefix ++ rest
  spells : SpellsLabels prefix others
  sizes : AllByRecursion IsLabel others
  fits : length (labels_wire (before ++ others)) ≤ 255
  next : P (before ++ others) rest

at_once : (before : List (List ℕ)) (P : List (List ℕ) → List ℕ → Type 0) (text : List ℕ) → length (labels_wire before) ≤ 255 → P before text → After before P text
at_once before P text few is = record {
  prefix = [];
  rest = text;
  others = [];
  text_is = refl;
  spells = SpellsLabels.ended;
  sizes = tt;
  fits = subst (λ (l : List (List ℕ)). length (labels_wire l) ≤ 255) (sym (append-nil before)) few;
  next = subst (λ (l : List (List ℕ)). P l text) (sym (append-nil before)) is;
}

later : (before : List (List ℕ)) (P : List (List ℕ) → List ℕ → Type 0) (text found next : List ℕ) → label_prefix text ≡ Ok (found, 46 ∷ next) → 0 < length found → After (before ++ found ∷ []) P next → After before P text
later before P text found next read some a =
    let t = label_takes text found (46 ∷ next) read in
    let regrouped : (before ++ found ∷ []) ++ a.others ≡ before ++ found ∷ a.others = append_assoc before (found ∷ []) a.others in
    record {
      prefix = t.prefix ++ 46 ∷ a.prefix;
      rest = a.rest;
      others = found ∷ a.others;
      text_is = t.text_is ∙ ap (λ (l : List ℕ). t.prefix ++ 46 ∷ l) a.text_is ∙ sym (append_assoc t.prefix (46 ∷ a.prefix) a.rest);
      spells = SpellsLabels.dotted t.prefix found a.prefix a.others t.spells a.spells;
      sizes = ((some, omega (arith, t.fits)), a.sizes);
      fits = subst (λ (l : List (List ℕ)). length (labels_wire l) ≤ 255) regrouped a.fits;
      next = subst (λ (l : List (List ℕ)). P l a.rest) regrouped a.next;
    }

-- ---- the scan

-- the last label that the scan reads, and the text after it
abbrev Last : List (List ℕ) → List ℕ → List ℕ → List (List ℕ) → List ℕ → Type 0
Last labels label rest these text = (these ≡ labels) × NextLabel (λ found left. (found ≡ label) × (left ≡ rest) × EndsLabel left × NoDot left) text

abbrev Out : List (List ℕ) → List ℕ → Read → Type 0
Out before text (Err error) = After before (Stop error) text
Out before text (Ok (labels, (label, rest))) = After before (Last labels label rest) text

out_later : (before : List (List ℕ)) (text found next : List ℕ) (read : Read) → label_prefix text ≡ Ok (found, 46 ∷ next) → 0 < length found → Out (before ++ found ∷ []) next read → Out before text read
out_later before text found next (Err error) is some a = later before (Stop error) text found next is some a
out_later before text found next (Ok (labels, (label, rest))) is some a = later before (Last labels label rest) text found next is some a

taken : (P : List ℕ → List ℕ → Type 0) (text found rest : List ℕ) → label_prefix text ≡ Ok (found, rest) → P found rest → NextLabel P text
taken P text found rest read is =
    let t = label_takes text found rest read in
    record { spelled = t.prefix; label = found; rest = rest; text_is = t.text_is; spells = t.spells; short = t.fits; next = is }

label_ends : (text found rest : List ℕ) → label_prefix text ≡ Ok (found, rest) → EndsLabel rest
label_ends text found rest read = (label_takes text found rest read).ends

last_out : (before : List (List ℕ)) (text found rest : List ℕ) → length (labels_wire before) ≤ 255 → label_prefix text ≡ Ok (found, rest) → NoDot rest → After before (Last before found rest) text
last_out before text found rest few read none =
    at_once before (Last before found rest) text few (refl, taken (λ label left. (label ≡ found) × (left ≡ rest) × EndsLabel left × NoDot left) text found rest read (refl, refl, label_ends text found rest read, none))

one_longer : (before : List (List ℕ)) (found : List ℕ) → fits before found ≡ true → length (labels_wire (before ++ found ∷ [])) ≤ 255
one_longer before found fine =
    let room : length (labels_wire before) + suc (length found) ≤ 255 = leb-true (length (labels_wire before) + suc (length found)) 255 fine in
    omega (arith, room, ap length (labels_wire-append before (found ∷ [])), length-append (labels_wire before) (labels_wire (found ∷ [])), length-append found (labels_wire []))

no_room : (before : List (List ℕ)) (found : List ℕ) → fits before found ≡ false → ¬ NameHasRoom before found
no_room before found over room = let h : fits before found ≡ true = le-leb (length (labels_wire before) + suc (length found)) 255 room in let g = sym h ∙ over in cc

has_room : (before : List (List ℕ)) (found : List ℕ) → fits before found ≡ true → NameHasRoom before found
has_room before found fine = leb-true (length (labels_wire before) + suc (length found)) 255 fine

full : (labels : List (List ℕ)) (label : List ℕ) → ¬ NameHasRoom labels label → fits labels label ≡ false
full labels label none = by (fits labels label) refl where
  by : (b : Bool) → fits labels label ≡ b → fits labels label ≡ false
  by false e = e
  by true e = absurd (none (has_room labels label e))

roomy : (labels : List (List ℕ)) (label : List ℕ) → NameHasRoom labels label → fits labels label ≡ true
roomy labels label room = le-leb (length (labels_wire labels) + suc (length label)) 255 room

some_octets : (n : ℕ) → n ≢ 0 → 0 < n
some_octets n some = omega arith

-- nothing spells the empty label
no_text : (text contents : List ℕ) → length contents ≡ 0 → SpellsLabel text contents → text ≡ []
no_text text contents none SpellsLabel.ended = refl
no_text text contents none (SpellsLabel.itself octet more octets plain spells) = absurd (omega (arith, none))
no_text text contents none (SpellsLabel.backslash octet more octets graphic no_digit spells) = absurd (omega (arith, none))
no_text text contents none (SpellsLabel.digits a b c more octets is_a is_b is_c small spells) = absurd (omega (arith, none))

abbrev Ahead : (List (List ℕ) → List ℕ → Read) → List ℕ → Type 0
Ahead more text = (longer : List (List ℕ)) (next : List ℕ) → length next < length text → length (labels_wire longer) ≤ 255 → Out longer next (more longer next)

label_out : (more : List (List ℕ) → List ℕ → Read) (before : List (List ℕ)) (text : List ℕ) (read : Label) → length (labels_wire before) ≤ 255 → Ahead more text → label_prefix text ≡ read → Out before text (after_label more before read)
label_out more before text (Err error) few ahead is = at_once before (Stop error) text few (label_stops before text error (prefix_label text) refl is)
label_out more before text (Ok (found, [])) few ahead is = last_out before text found [] few is tt
label_out more before text (Ok (found, octet ∷ next)) few ahead is = dot (octet == 46) refl where
  emptied : (b : Bool) → (length found == 0) ≡ b → octet ≡ 46 → fits before found ≡ true → Out before text (cond b (Err errors.EmptyLabel) (more (before ++ found ∷ []) next))
  emptied true none same fine =
      let read : label_prefix text ≡ Ok (found, 46 ∷ next) = is ∙ ap (λ (o : ℕ). Ok (found, o ∷ next)) same in
      let t = label_takes text found (46 ∷ next) read in
      let zero_long : length found ≡ 0 = eqb-true (length found) 0 none in
      at_once before EmptyNext text few (next, t.text_is ∙ ap (λ (l : List ℕ). l ++ 46 ∷ next) (no_text t.prefix found zero_long t.spells), omega (arith, has_room before found fine, zero_long))
  emptied false some same fine =
      let read : label_prefix text ≡ Ok (found, 46 ∷ next) = is ∙ ap (λ (o : ℕ). Ok (found, o ∷ next)) same in
      let apart : length found ≢ 0 = eqb-false (length found) 0 some in
      let long : 0 < length found = some_octets (length found) apart in
      out_later before text found next (more (before ++ found ∷ []) next) read long
      (ahead (before ++ found ∷ []) next (omega (arith, label_shorter text found (46 ∷ next) read)) (one_longer before found fine))

  fitted : (b : Bool) → fits before found ≡ b → octet ≡ 46 → Out before text (cond b (cond (length found == 0) (Err errors.EmptyLabel) (more (before ++ found ∷ []) next)) (Err errors.Overlong))
  fitted true fine same = emptied (length found == 0) refl same fine
  fitted false over same =
      let read : label_prefix text ≡ Ok (found, 46 ∷ next) = is ∙ ap (λ (o : ℕ). Ok (found, o ∷ next)) same in
      at_once before (Stop errors.Overlong) text few
      (taken (λ label left. (next : List ℕ) × (left ≡ 46 ∷ next) × ¬ NameHasRoom before label) text found (46 ∷ next) read (next, refl, no_room before found over))

  dot : (b : Bool) → (octet == 46) ≡ b → Out before text (cond b (after_dot (λ longer. more longer next) before found) (Ok (before, (found, octet ∷ next))))
  dot true same = fitted (fits before found) refl (eqb-true octet 46 same)
  dot false apart = last_out before text found (octet ∷ next) few is (eqb-false octet 46 apart)

within_out : (steps : ℕ) (before : List (List ℕ)) (text : List ℕ) → length (labels_wire before) ≤ 255 → length text < steps → Out before text (parts_within steps before text)
unfolding parts_within
within_out zero before text few enough = absurd (omega arith)
within_out (suc steps) before text few enough =
    label_out (λ longer next. parts_within steps longer next) before text (label_prefix text) few
    (λ longer next shorter short. within_out steps longer next short (omega arith)) refl

scan_out : (text : List ℕ) → Out [] text (name_scan text)
unfolding name_scan
scan_out text = within_out (suc (length text)) [] text (omega arith) (omega arith)

-- ---- what is spelled is gone over

abbrev Gone : ℕ → List (List ℕ) → List ℕ → List (List ℕ) → List ℕ → Type 0
Gone steps before text labels rest = (fewer : ℕ) × (length rest < fewer) × (parts_within steps before text ≡ parts_within fewer labels rest)

walk : (steps : ℕ) (before : List (List ℕ)) (text : List ℕ) (labels : List (List ℕ)) (rest : List ℕ) → SpellsLabels text labels → AllByRecursion IsLabel labels → length (labels_wire (before ++ labels)) ≤ 255 → length (text ++ rest) < steps → Gone steps before (text ++ rest) (before ++ labels) rest
walk steps before text labels rest SpellsLabels.ended sizes short enough =
    (steps, enough, ap (λ (l : List (List ℕ)). parts_within steps l rest) (sym (append-nil before)))
walk zero before text labels rest (SpellsLabels.dotted spelled octets more others spells trailing) sizes short enough = absurd (omega arith)
walk (suc steps) before text labels rest (SpellsLabels.dotted spelled octets more others spells trailing) sizes short enough =
    let regrouped : (spelled ++ 46 ∷ more) ++ rest ≡ spelled ++ 46 ∷ (more ++ rest) = append_assoc spelled (46 ∷ more) rest in
    let read : label_prefix (spelled ++ 46 ∷ (more ++ rest)) ≡ Ok (octets, 46 ∷ (more ++ rest)) = label_again spelled octets (46 ∷ (more ++ rest)) spells sizes.0.1 dot_foreign in
    let longer : (before ++ octets ∷ []) ++ others ≡ before ++ octets ∷ others = append_assoc before (octets ∷ []) others in
    let long : length (labels_wire (before ++ octets ∷ others)) ≡ length (labels_wire before) + (suc (length octets) + length (labels_wire others)) = ap length (labels_wire-append before (octets ∷ others)) ∙ length-append (labels_wire before) (labels_wire (octets ∷ others)) ∙ ap (λ (n : ℕ). length (labels_wire before) + suc n) (length-append octets (labels_wire others)) ∙ omega arith in
    let fine : fits before octets ≡ true = le-leb (length (labels_wire before) + suc (length octets)) 255 (omega (arith, long)) in
    let some : (length octets == 0) ≡ false = ne_eqb (length octets) 0 (λ none. omega (arith, sizes.0.0)) in
    let w = walk steps (before ++ octets ∷ []) more others rest trailing sizes.1
    (omega (arith, ap (λ (l : List (List ℕ)). length (labels_wire l)) longer))
    (omega (arith, ap length regrouped, length-append spelled (46 ∷ (more ++ rest)))) in (
      w.0,
      w.1,
      ap (parts_within (suc steps) before) regrouped
          ∙ stepped steps before (spelled ++ 46 ∷ (more ++ rest)) (Ok (octets, 46 ∷ (more ++ rest))) read
          ∙ rw (fine, some) refl
          ∙ w.2
          ∙ ap (λ (l : List (List ℕ)). parts_within w.0 l rest) longer,
    )

way : {P : List (List ℕ) → List ℕ → Type 0} (text : List ℕ) (a : AfterLabels P text) → Underway text a.labels a.rest
unfolding name_scan
way text a =
    let w = walk (suc (length (a.prefix ++ a.rest))) [] a.prefix a.labels a.rest a.spells a.sizes a.fits (omega arith) in
    record { steps = w.0; enough = w.1; left = ap name_scan a.text_is ∙ w.2 }

from_after : {P : List (List ℕ) → List ℕ → Type 0} (text : List ℕ) → After [] P text → AfterLabels P text
from_after text a = record { prefix = a.prefix; rest = a.rest; labels = a.others; text_is = a.text_is; spells = a.spells; sizes = a.sizes; fits = a.fits; next = a.next }

-- a label that is next is read
next_read : (P : List ℕ → List ℕ → Type 0) (text : List ℕ) (n : NextLabel P text) → EndsLabel n.rest → label_prefix text ≡ Ok (n.label, n.rest)
next_read P text n ends = ap label_prefix n.text_is ∙ label_again n.spelled n.label n.rest n.spells (omega (arith, n.short)) ends

-- ---- what the scan stops at is what the answers say

stops_at : (error : NameParseError) (text : List ℕ) → name_scan text ≡ Err error → AfterLabels (Stop error) text
stops_at error text e = from_after text (subst (Out [] text) e (scan_out text))

ends_at : (text : List ℕ) (labels : List (List ℕ)) (label rest : List ℕ) → name_scan text ≡ Ok (labels, (label, rest)) → AfterLabels (Last labels label rest) text
ends_at text labels label rest e = from_after text (subst (Out [] text) e (scan_out text))

scan_fails : (error : NameParseError) (text : List ℕ) (a : AfterLabels (λ _ rest. label_prefix rest ≡ Err error) text) → name_scan text ≡ Err error
scan_fails error text a = failed_scan text a.labels a.rest error (way text a) a.next

scan_empty : (text : List ℕ) → AfterLabels EmptyNext text → name_scan text ≡ Err errors.EmptyLabel
scan_empty text a =
    let n = a.next in
    let read : label_prefix a.rest ≡ Ok ([], 46 ∷ n.0) = ap label_prefix n.1 ∙ label_again [] [] (46 ∷ n.0) SpellsLabel.ended (omega arith) dot_foreign in
    empty_scan text a.labels a.rest [] n.0 (way text a) read (roomy a.labels [] n.2) refl

-- the scan at a label that ends, with a dot after it or without
scan_long : (text : List ℕ) (a : AfterLabels (LongNext (λ _. ⊤)) text) → (name_scan text ≡ Err errors.Overlong) ⊎ ((label rest : List ℕ) × (name_scan text ≡ Ok (a.labels, (label, rest))) × (fits a.labels label ≡ false))
scan_long text a =
    let n = a.next in
    by n.rest (next_read _ a.rest n n.next.1) (full a.labels n.label n.next.2) where
      by : (left : List ℕ) → label_prefix a.rest ≡ Ok (a.next.label, left) → fits a.labels a.next.label ≡ false → (name_scan text ≡ Err errors.Overlong) ⊎ ((label rest : List ℕ) × (name_scan text ≡ Ok (a.labels, (label, rest))) × (fits a.labels label ≡ false))
      by [] read over = inr (a.next.label, [], ended_scan text a.labels a.rest a.next.label [] (way text a) read tt, over)
      by (octet ∷ left) read over = dot (octet == 46) refl where
        dot : (b : Bool) → (octet == 46) ≡ b → (name_scan text ≡ Err errors.Overlong) ⊎ ((label rest : List ℕ) × (name_scan text ≡ Ok (a.labels, (label, rest))) × (fits a.labels label ≡ false))
        dot true same = inl (overlong_scan text a.labels a.rest a.next.label left (way text a) (read ∙ ap (λ (o : ℕ). Ok (a.next.label, o ∷ left)) (eqb-true octet 46 same)) over)
        dot false apart = inr (a.next.label, octet ∷ left, ended_scan text a.labels a.rest a.next.label (octet ∷ left) (way text a) read (eqb-false octet 46 apart), over)

-- ---- why a whole text is refused

data Why (read : Read) (error : NameParseError) : Type 0 where
  stopped : read ≡ Err error → Why read error
  long : (labels : List (List ℕ)) (label rest : List ℕ) → read ≡ Ok (labels, (label, rest)) → fits labels label ≡ false → errors.Overlong ≡ error → Why read error
  ended : (labels : List (List ℕ)) (label : List ℕ) → read ≡ Ok (labels, (label, [])) → fits labels label ≡ true → label ≢ [] → errors.Relative ≡ error → Why read error
  other : (labels : List (List ℕ)) (label : List ℕ) (octet : ℕ) (rest : List ℕ) → read ≡ Ok (labels, (label, octet ∷ rest)) → fits labels label ≡ true → errors.InvalidChar ≡ error → Why read error

same_name_error : (a b : NameParseError) → ◌≡◌ {A = Result (List (List ℕ)) NameParseError} (Err a) (Err b) → a ≡ b
same_name_error a b e = cc

at_end_why : (labels : List (List ℕ)) (label rest : List ℕ) (error : NameParseError) → fits labels label ≡ true → at_end labels label rest ≡ Err error → Why (Ok (labels, (label, rest))) error
at_end_why labels label (octet ∷ rest) error fine e = Why.other labels label octet rest refl fine (same_name_error errors.InvalidChar error e)
at_end_why labels [] [] error fine e = absurd cc
at_end_why labels (octet ∷ others) [] error fine e = Why.ended labels (octet ∷ others) refl fine (λ none. cc) (same_name_error errors.Relative error e)

whole_why : (read : Read) (error : NameParseError) → whole_name_text read ≡ Err error → Why read error
whole_why (Err x) error e = Why.stopped (ap Err (same_name_error x error e))
whole_why (Ok (labels, (label, rest))) error e =
    elim (chosen (fits labels label) _ _ _ e) [
      | inl fine ↦ at_end_why labels label rest error fine.0 fine.1
      | inr over ↦ Why.long labels label rest refl over.0 (same_name_error errors.Overlong error over.1)
    ]

-- the errors of the scan alone
abbrev OfScan : NameParseError → Type 0
OfScan errors.OverlongLabel = ⊤
OfScan errors.PartialEscape = ⊤
OfScan errors.InvalidEscape = ⊤
OfScan errors.EmptyLabel = ⊤
OfScan errors.Overlong = ⊥
OfScan errors.InvalidChar = ⊥
OfScan errors.Relative = ⊥

scan_alone : (error : NameParseError) → OfScan error → (read : Read) → Why read error → read ≡ Err error
scan_alone error of read (Why.stopped is) = is
scan_alone error of read (Why.long labels label rest is over same) = absurd (subst OfScan (sym same) of)
scan_alone error of read (Why.ended labels label is fine some same) = absurd (subst OfScan (sym same) of)
scan_alone error of read (Why.other labels label octet rest is fine same) = absurd (subst OfScan (sym same) of)

from_scan : (error : NameParseError) → OfScan error → (text : List ℕ) → parsed_name text ≡ Err error → AfterLabels (Stop error) text
from_scan error of text e = stops_at error text (scan_alone error of (name_scan text) (whole_why (name_scan text) error e))

with_next : (P Q : List (List ℕ) → List ℕ → Type 0) → ((labels : List (List ℕ)) (rest : List ℕ) → P labels rest → Q labels rest) → (text : List ℕ) → AfterLabels P text → AfterLabels Q text
with_next P Q to text a = record { prefix = a.prefix; rest = a.rest; labels = a.labels; text_is = a.text_is; spells = a.spells; sizes = a.sizes; fits = a.fits; next = to a.labels a.rest a.next }

with_label : (P Q : List ℕ → List ℕ → Type 0) → ((label rest : List ℕ) → P label rest → Q label rest) → (text : List ℕ) → NextLabel P text → NextLabel Q text
with_label P Q to text n = record { spelled = n.spelled; label = n.label; rest = n.rest; text_is = n.text_is; spells = n.spells; short = n.short; next = to n.label n.rest n.next }

-- what the scan ended with
with_last : (Q : List (List ℕ) → List ℕ → List ℕ → Type 0) (text : List ℕ) (labels : List (List ℕ)) (label rest : List ℕ) → name_scan text ≡ Ok (labels, (label, rest)) → (EndsLabel rest → NoDot rest → Q labels label rest) → AfterLabels (λ these left. NextLabel (Q these) left) text
with_last Q text labels label rest e to =
    with_next (Last labels label rest) (λ these left. NextLabel (Q these) left)
    (λ these left last. with_label (λ found more. (found ≡ label) × (more ≡ rest) × EndsLabel more × NoDot more) (Q these)
    (λ found more is. subst (λ (l : List (List ℕ)). Q l found more) (sym last.0) (subst (λ (l : List ℕ). Q labels l more) (sym is.0) (subst (Q labels label) (sym is.1) (to (subst EndsLabel is.1 is.2) (subst NoDot is.1 is.3)))))
    left last.1)
    text (ends_at text labels label rest e)

ends_name : (rest : List ℕ) → EndsLabel rest → NoDot rest → EndsName rest
ends_name [] ends none = tt
ends_name (octet ∷ rest) ends none = (ends, none)

ends_label : (rest : List ℕ) → EndsName rest → EndsLabel rest
ends_label [] ends = tt
ends_label (octet ∷ rest) ends = ends.0

no_dot : (rest : List ℕ) → EndsName rest → NoDot rest
no_dot [] ends = tt
no_dot (octet ∷ rest) ends = ends.1

scan_ends : (P : List (List ℕ) → List ℕ → List ℕ → Type 0) (text : List ℕ) (a : AfterLabels (λ labels rest. NextLabel (P labels) rest) text) → EndsName a.next.rest → name_scan text ≡ Ok (a.labels, (a.next.label, a.next.rest))
scan_ends P text a ends = ended_scan text a.labels a.rest a.next.label a.next.rest (way text a) (next_read (P a.labels) a.rest a.next (ends_label a.next.rest ends)) (no_dot a.next.rest ends)

pub parsed_overlong_label : (text : List ℕ) → (parsed_name text ≡ Err errors.OverlongLabel) ↔ AfterLabels (λ _ rest. SpellsMore 63 rest) text
parsed_overlong_label text = (
  from_scan errors.OverlongLabel tt text,
  λ a. ap whole_name_text (scan_fails errors.OverlongLabel text (with_next (λ _ rest. SpellsMore 63 rest) (λ _ rest. label_prefix rest ≡ Err errors.OverlongLabel) (λ _ rest g. overlong_label rest g) text a)),
)

pub parsed_partial : (text : List ℕ) → (parsed_name text ≡ Err errors.PartialEscape) ↔ AfterLabels (λ _ rest. GoesOn 63 IsCutEscape rest) text
parsed_partial text = (
  from_scan errors.PartialEscape tt text,
  λ a. ap whole_name_text (scan_fails errors.PartialEscape text (with_next (λ _ rest. GoesOn 63 IsCutEscape rest) (λ _ rest. label_prefix rest ≡ Err errors.PartialEscape) (λ _ rest g. cut_label rest g) text a)),
)

pub parsed_escape : (text : List ℕ) → (parsed_name text ≡ Err errors.InvalidEscape) ↔ AfterLabels (λ _ rest. GoesOn 63 IsWrongEscape rest) text
parsed_escape text = (
  from_scan errors.InvalidEscape tt text,
  λ a. ap whole_name_text (scan_fails errors.InvalidEscape text (with_next (λ _ rest. GoesOn 63 IsWrongEscape rest) (λ _ rest. label_prefix rest ≡ Err errors.InvalidEscape) (λ _ rest g. wrong_label rest g) text a)),
)

pub parsed_empty : (text : List ℕ) → (parsed_name text ≡ Err errors.EmptyLabel) ↔ AfterLabels EmptyNext text
parsed_empty text = (from_scan errors.EmptyLabel tt text, λ a. ap whole_name_text (scan_empty text a))

-- a dot after a label that is too long, as what ends it
long_at_dot : (P : List ℕ → Type 0) → ((next : List ℕ) → P (46 ∷ next)) → (text : List ℕ) → AfterLabels (Stop errors.Overlong) text → AfterLabels (LongNext P) text
long_at_dot P dot text a =
    with_next (Stop errors.Overlong) (LongNext P)
    (λ labels rest n. with_label (λ label left. (next : List ℕ) × (left ≡ 46 ∷ next) × ¬ NameHasRoom labels label) (λ label left. P left × EndsLabel left × ¬ NameHasRoom labels label)
    (λ label left is. (subst P (sym is.1) (dot is.0), subst EndsLabel (sym is.1) dot_foreign, is.2)) rest n)
    text a

pub parsed_overlong : (text : List ℕ) → (parsed_name text ≡ Err errors.Overlong) ↔ AfterLabels (LongNext (λ _. ⊤)) text
parsed_overlong text = (λ e. from (whole_why (name_scan text) errors.Overlong e), to) where
  from : Why (name_scan text) errors.Overlong → AfterLabels (LongNext (λ _. ⊤)) text
  from (Why.stopped is) = long_at_dot (λ _. ⊤) (λ next. tt) text (stops_at errors.Overlong text is)
  from (Why.long labels label rest is over same) = with_last (λ these found left. ⊤ × EndsLabel left × ¬ NameHasRoom these found) text labels label rest is (λ ends none. (tt, ends, no_room labels label over))
  from (Why.ended labels label is fine some same) = absurd cc
  from (Why.other labels label octet rest is fine same) = absurd cc

  to : AfterLabels (LongNext (λ _. ⊤)) text → parsed_name text ≡ Err errors.Overlong
  to a =
      elim (scan_long text a) [
        | inl is ↦ ap whole_name_text is
        | inr last ↦ ap whole_name_text last.2 ∙ rw last.3 refl
      ]

relative_end : (labels : List (List ℕ)) (label rest : List ℕ) → rest ≡ [] → label ≢ [] → at_end labels label rest ≡ Err errors.Relative
relative_end labels [] rest none some = absurd (some refl)
relative_end labels (octet ∷ others) [] none some = refl
relative_end labels (octet ∷ others) (first ∷ rest) none some = absurd cc

pub parsed_relative : (text : List ℕ) → (parsed_name text ≡ Err errors.Relative) ↔ AfterLabels (RelativeNext (λ rest. rest ≡ [])) text
parsed_relative text = (λ e. from (whole_why (name_scan text) errors.Relative e), to) where
  from : Why (name_scan text) errors.Relative → AfterLabels (RelativeNext (λ rest. rest ≡ [])) text
  from (Why.stopped is) = absurd ((stops_at errors.Relative text is).next)
  from (Why.long labels label rest is over same) = absurd cc
  from (Why.ended labels label is fine some same) = with_last (λ these found left. (left ≡ []) × EndsName left × (found ≢ []) × NameHasRoom these found) text labels label [] is (λ ends none. (refl, tt, some, has_room labels label fine))
  from (Why.other labels label octet rest is fine same) = absurd cc

  to : AfterLabels (RelativeNext (λ rest. rest ≡ [])) text → parsed_name text ≡ Err errors.Relative
  to a =
      let n = a.next.next in
      ap whole_name_text (scan_ends (λ these found left. (left ≡ []) × EndsName left × (found ≢ []) × NameHasRoom these found) text a n.1)
      ∙ rw (roomy a.labels a.next.label n.3) (relative_end a.labels a.next.label a.next.rest n.0 n.2)

invalid_end : (labels : List (List ℕ)) (label rest : List ℕ) → rest ≢ [] → at_end labels label rest ≡ Err errors.InvalidChar
invalid_end labels label [] some = absurd (some refl)
invalid_end labels label (octet ∷ rest) some = refl

pub parsed_character : (text : List ℕ) → (parsed_name text ≡ Err errors.InvalidChar) ↔ AfterLabels InvalidNext text
parsed_character text = (λ e. from (whole_why (name_scan text) errors.InvalidChar e), to) where
  from : Why (name_scan text) errors.InvalidChar → AfterLabels InvalidNext text
  from (Why.stopped is) = absurd ((stops_at errors.InvalidChar text is).next)
  from (Why.long labels label rest is over same) = absurd cc
  from (Why.ended labels label is fine some same) = absurd cc
  from (Why.other labels label octet rest is fine same) = with_last (λ these found left. (left ≢ []) × EndsName left × NameHasRoom these found) text labels label (octet ∷ rest) is (λ ends none. (λ e. cc, ends_name (octet ∷ rest) ends none, has_room labels label fine))

  to : AfterLabels InvalidNext text → parsed_name text ≡ Err errors.InvalidChar
  to a =
      let n = a.next.next in
      ap whole_name_text (scan_ends (λ these found left. (left ≢ []) × EndsName left × NameHasRoom these found) text a n.1)
      ∙ rw (roomy a.labels a.next.label n.2) (invalid_end a.labels a.next.label a.next.rest n.0)

-- ---- why the start of a text is refused

data WhyNot (read : Read) (error : NameSplitError) : Type 0 where
  stopped : (x : NameParseError) → read ≡ Err x → of_prefix x ≡ error → WhyNot read error
  short : (labels : List (List ℕ)) (label : List ℕ) → read ≡ Ok (labels, (label, [])) → split_errors.ShortInput ≡ error → WhyNot read error
  long : (labels : List (List ℕ)) (label : List ℕ) (octet : ℕ) (rest : List ℕ) → read ≡ Ok (labels, (label, octet ∷ rest)) → fits labels label ≡ false → split_errors.Overlong ≡ error → WhyNot read error
  relative : (labels : List (List ℕ)) (label : List ℕ) (octet : ℕ) (rest : List ℕ) → read ≡ Ok (labels, (label, octet ∷ rest)) → fits labels label ≡ true → label ≢ [] → split_errors.Relative ≡ error → WhyNot read error

same_split_error : (a b : NameSplitError) → ◌≡◌ {A = Result (List (List ℕ) × List ℕ) NameSplitError} (Err a) (Err b) → a ≡ b
same_split_error a b e = cc

at_octet_why : (labels : List (List ℕ)) (label : List ℕ) (octet : ℕ) (rest : List ℕ) (error : NameSplitError) → fits labels label ≡ true → at_octet labels label (octet ∷ rest) ≡ Err error → WhyNot (Ok (labels, (label, octet ∷ rest))) error
at_octet_why labels [] octet rest error fine e = absurd cc
at_octet_why labels (first ∷ others) octet rest error fine e = WhyNot.relative labels (first ∷ others) octet rest refl fine (λ none. cc) (same_split_error split_errors.Relative error e)

split_why : (read : Read) (error : NameSplitError) → name_at_start read ≡ Err error → WhyNot read error
split_why (Err x) error e = WhyNot.stopped x refl (same_split_error (of_prefix x) error e)
split_why (Ok (labels, (label, []))) error e = WhyNot.short labels label refl (same_split_error split_errors.ShortInput error e)
split_why (Ok (labels, (label, octet ∷ rest))) error e =
    elim (chosen (fits labels label) _ _ _ e) [
      | inl fine ↦ at_octet_why labels label octet rest error fine.0 fine.1
      | inr over ↦ WhyNot.long labels label octet rest refl over.0 (same_split_error split_errors.Overlong error over.1)
    ]

overlong_back : (x : NameParseError) → of_prefix x ≡ split_errors.Overlong → x ≡ errors.Overlong
overlong_back errors.Overlong e = refl
overlong_back x e = cc

relative_back : (x : NameParseError) → of_prefix x ≡ split_errors.Relative → x ≡ errors.Relative
relative_back errors.Relative e = refl
relative_back x e = cc

short_back : (x : NameParseError) → of_prefix x ≡ split_errors.ShortInput → x ≡ errors.PartialEscape
short_back errors.PartialEscape e = refl
short_back x e = cc

label_back : (x : NameParseError) → of_prefix x ≡ split_errors.OverlongLabel → x ≡ errors.OverlongLabel
label_back errors.OverlongLabel e = refl
label_back x e = cc

escape_back : (x : NameParseError) → of_prefix x ≡ split_errors.InvalidEscape → x ≡ errors.InvalidEscape
escape_back errors.InvalidEscape e = refl
escape_back x e = cc

empty_back : (x : NameParseError) → of_prefix x ≡ split_errors.EmptyLabel → x ≡ errors.EmptyLabel
empty_back errors.EmptyLabel e = refl
empty_back x e = cc

-- the error of a whole text that is this one of a start
back : (x error : NameParseError) → OfScan error → of_prefix x ≡ of_prefix error → x ≡ error
back x errors.OverlongLabel of e = label_back x e
back x errors.PartialEscape of e = short_back x e
back x errors.InvalidEscape of e = escape_back x e
back x errors.EmptyLabel of e = empty_back x e
back x errors.Overlong of e = absurd of
back x errors.InvalidChar of e = absurd of
back x errors.Relative of e = absurd of

split_alone : (error : NameParseError) → OfScan error → (split_errors.ShortInput ≡ of_prefix error → ⊥) → (split_errors.Overlong ≡ of_prefix error → ⊥) → (split_errors.Relative ≡ of_prefix error → ⊥) → (text : List ℕ) → split_name text ≡ Err (of_prefix error) → AfterLabels (Stop error) text
split_alone error of not_short not_long not_relative text e = by (split_why (name_scan text) (of_prefix error) e) where
  by : WhyNot (name_scan text) (of_prefix error) → AfterLabels (Stop error) text
  by (WhyNot.stopped x is same) = stops_at error text (is ∙ ap Err (back x error of same))
  by (WhyNot.short labels label is same) = absurd (not_short same)
  by (WhyNot.long labels label octet rest is over same) = absurd (not_long same)
  by (WhyNot.relative labels label octet rest is fine some same) = absurd (not_relative same)

pub split_overlong_label : (text : List ℕ) → (split_name text ≡ Err split_errors.OverlongLabel) ↔ AfterLabels (λ _ rest. SpellsMore 63 rest) text
split_overlong_label text = (
  split_alone errors.OverlongLabel tt (λ e. cc) (λ e. cc) (λ e. cc) text,
  λ a. ap name_at_start (scan_fails errors.OverlongLabel text (with_next (λ _ rest. SpellsMore 63 rest) (λ _ rest. label_prefix rest ≡ Err errors.OverlongLabel) (λ _ rest g. overlong_label rest g) text a)),
)

pub split_escape : (text : List ℕ) → (split_name text ≡ Err split_errors.InvalidEscape) ↔ AfterLabels (λ _ rest. GoesOn 63 IsWrongEscape rest) text
split_escape text = (
  split_alone errors.InvalidEscape tt (λ e. cc) (λ e. cc) (λ e. cc) text,
  λ a. ap name_at_start (scan_fails errors.InvalidEscape text (with_next (λ _ rest. GoesOn 63 IsWrongEscape rest) (λ _ rest. label_prefix rest ≡ Err errors.InvalidEscape) (λ _ rest g. wrong_label rest g) text a)),
)

pub split_empty : (text : List ℕ) → (split_name text ≡ Err split_errors.EmptyLabel) ↔ AfterLabels EmptyNext text
split_empty text = (split_alone errors.EmptyLabel tt (λ e. cc) (λ e. cc) (λ e. cc) text, λ a. ap name_at_start (scan_empty text a))

long_start : (labels : List (List ℕ)) (label rest : List ℕ) → rest ≢ [] → fits labels label ≡ false → name_at_start (Ok (labels, (label, rest))) ≡ Err split_errors.Overlong
long_start labels label [] some over = absurd (some refl)
long_start labels label (octet ∷ rest) some over = rw over refl

-- a label that is too long, and ends before the text does
scan_long_start : (text : List ℕ) (a : AfterLabels (LongNext (λ rest. rest ≢ [])) text) → split_name text ≡ Err split_errors.Overlong
scan_long_start text a =
    let n = a.next in
    by n.rest n.next.0 (next_read _ a.rest n n.next.1) (full a.labels n.label n.next.2) where
      by : (left : List ℕ) → left ≢ [] → label_prefix a.rest ≡ Ok (a.next.label, left) → fits a.labels a.next.label ≡ false → split_name text ≡ Err split_errors.Overlong
      by [] some read over = absurd (some refl)
      by (octet ∷ left) some read over = dot (octet == 46) refl where
        dot : (b : Bool) → (octet == 46) ≡ b → split_name text ≡ Err split_errors.Overlong
        dot true same = ap name_at_start (overlong_scan text a.labels a.rest a.next.label left (way text a) (read ∙ ap (λ (o : ℕ). Ok (a.next.label, o ∷ left)) (eqb-true octet 46 same)) over)
        dot false apart =
            ap name_at_start (ended_scan text a.labels a.rest a.next.label (octet ∷ left) (way text a) read (eqb-false octet 46 apart))
            ∙ long_start a.labels a.next.label (octet ∷ left) (λ e. cc) over

pub split_overlong : (text : List ℕ) → (split_name text ≡ Err split_errors.Overlong) ↔ AfterLabels (LongNext (λ rest. rest ≢ [])) text
split_overlong text = (λ e. from (split_why (name_scan text) split_errors.Overlong e), scan_long_start text) where
  from : WhyNot (name_scan text) split_errors.Overlong → AfterLabels (LongNext (λ rest. rest ≢ [])) text
  from (WhyNot.stopped x is same) = long_at_dot (λ rest. rest ≢ []) (λ next e. cc) text (stops_at errors.Overlong text (is ∙ ap Err (overlong_back x same)))
  from (WhyNot.short labels label is same) = absurd cc
  from (WhyNot.long labels label octet rest is over same) = with_last (λ these found left. (left ≢ []) × EndsLabel left × ¬ NameHasRoom these found) text labels label (octet ∷ rest) is (λ ends none. (λ e. cc, ends, no_room labels label over))
  from (WhyNot.relative labels label octet rest is fine some same) = absurd cc

relative_start : (labels : List (List ℕ)) (label rest : List ℕ) → rest ≢ [] → label ≢ [] → fits labels label ≡ true → name_at_start (Ok (labels, (label, rest))) ≡ Err split_errors.Relative
relative_start labels label [] some full fine = absurd (some refl)
relative_start labels [] (octet ∷ rest) some full fine = absurd (full refl)
relative_start labels (first ∷ others) (octet ∷ rest) some full fine = rw fine refl

pub split_relative : (text : List ℕ) → (split_name text ≡ Err split_errors.Relative) ↔ AfterLabels (RelativeNext (λ rest. rest ≢ [])) text
split_relative text = (λ e. from (split_why (name_scan text) split_errors.Relative e), to) where
  from : WhyNot (name_scan text) split_errors.Relative → AfterLabels (RelativeNext (λ rest. rest ≢ [])) text
  from (WhyNot.stopped x is same) = absurd ((stops_at errors.Relative text (is ∙ ap Err (relative_back x same))).next)
  from (WhyNot.short labels label is same) = absurd cc
  from (WhyNot.long labels label octet rest is over same) = absurd cc
  from (WhyNot.relative labels label octet rest is fine some same) = with_last (λ these found left. (left ≢ []) × EndsName left × (found ≢ []) × NameHasRoom these found) text labels label (octet ∷ rest) is (λ ends none. (λ e. cc, ends_name (octet ∷ rest) ends none, some, has_room labels label fine))

  to : AfterLabels (RelativeNext (λ rest. rest ≢ [])) text → split_name text ≡ Err split_errors.Relative
  to a =
      let n = a.next.next in
      ap name_at_start (scan_ends (λ these found left. (left ≢ []) × EndsName left × (found ≢ []) × NameHasRoom these found) text a n.1)
      ∙ relative_start a.labels a.next.label a.next.rest n.0 n.2 (roomy a.labels a.next.label n.3)

short_start : (labels : List (List ℕ)) (label rest : List ℕ) → rest ≡ [] → name_at_start (Ok (labels, (label, rest))) ≡ Err split_errors.ShortInput
short_start labels label [] none = refl
short_start labels label (octet ∷ rest) none = absurd cc

no_more : (rest : List ℕ) → rest ≡ [] → EndsName rest
no_more [] none = tt
no_more (octet ∷ rest) none = absurd cc

pub split_short : (text : List ℕ) → (split_name text ≡ Err split_errors.ShortInput) ↔ (AfterLabels (λ _ rest. GoesOn 63 IsCutEscape rest) text ⊎ AfterLabels (λ _ rest. NextLabel (λ _ left. left ≡ []) rest) text)
split_short text = (λ e. from (split_why (name_scan text) split_errors.ShortInput e), to) where
  from : WhyNot (name_scan text) split_errors.ShortInput → AfterLabels (λ _ rest. GoesOn 63 IsCutEscape rest) text ⊎ AfterLabels (λ _ rest. NextLabel (λ _ left. left ≡ []) rest) text
  from (WhyNot.stopped x is same) = inl (stops_at errors.PartialEscape text (is ∙ ap Err (short_back x same)))
  from (WhyNot.short labels label is same) = inr (with_last (λ these found left. left ≡ []) text labels label [] is (λ ends none. refl))
  from (WhyNot.long labels label octet rest is over same) = absurd cc
  from (WhyNot.relative labels label octet rest is fine some same) = absurd cc

  to : AfterLabels (λ _ rest. GoesOn 63 IsCutEscape rest) text ⊎ AfterLabels (λ _ rest. NextLabel (λ _ left. left ≡ []) rest) text → split_name text ≡ Err split_errors.ShortInput
  to (inl a) = ap name_at_start (scan_fails errors.PartialEscape text (with_next (λ _ rest. GoesOn 63 IsCutEscape rest) (λ _ rest. label_prefix rest ≡ Err errors.PartialEscape) (λ _ rest g. cut_label rest g) text a))
  to (inr a) =
      ap name_at_start (scan_ends (λ these found left. left ≡ []) text a (no_more a.next.rest a.next.next))
      ∙ short_start a.labels a.next.label a.next.rest a.next.next
