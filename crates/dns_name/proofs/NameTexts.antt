-- What the scan of a name reads, in words, and that what is printed is read.
use Rattle.std.proofs.Common.{◌≡◌, ◌≢◌, ◌⊎◌, ℕ, zero, suc, ◌+◌, ◌<◌, ◌≤◌, inl, inr, true, false, List, [], ◌∷◌, ◌++◌, length, Result, Ok, Err, refl, sym, ap, subst, ◌∙◌, append_assoc, arith}
use Rattle.std.specs.Prelude.{◌==◌}
use Rattle.std.specs.List.{AllByRecursion}
use Rattle.std.specs.Result.{result_map_both}
use Rattle.std.proofs.lemmas.Bool.{le-leb, leb-true, eqb-true, eqb-false, ne_eqb}
use Rattle.std.proofs.lemmas.List.{append-nil, length-append}
use Rattle.dns_wire.specs.Names.{labels_wire, wire, IsLabel, IsName}
use Rattle.dns_wire.specs.Reading.{AreOctets}
use Rattle.dns_wire.proofs.Spelled.{chosen}
use Rattle.dns_wire.proofs.Walk.{labels_wire-append, wire_long}
use Rattle.dns_label.specs.Text.{is_unescaped, shown_label, prefix_label, IsForeign, EndsLabel, SpellsLabel}
use Rattle.dns_label.specs.declared.text_error.LabelParseError.{LabelParseError}
use Rattle.dns_label.specs.declared.text_error.LabelParseError.TheVariants as label_errors
use Rattle.dns_label.proofs.Scanned.{Takes, prefix_takes, prefix_again, prefix_never, spelled_apart, shown_spells, shown_plain, plain_printed}
use Rattle.dns_name.specs.declared.text_error.NameParseError.{NameParseError}
use Rattle.dns_name.specs.declared.text_error.NameParseError.TheVariants as errors
use Rattle.dns_name.specs.declared.text_error.NameSplitError.{NameSplitError}
use Rattle.dns_name.specs.declared.text_error.NameSplitError.TheVariants as split_errors
use Rattle.dns_name.specs.Text.{shown_name, of_label, of_prefix, fits, Parts, label_prefix, after_label, parts_within, name_scan, at_end, whole_name_text, parsed_name, at_octet, name_at_start, split_name, NoDot, EndsName, SpellsLabels, AreUnescapedTexts}

abbrev pub Label : Type 0
Label = Result (List ℕ × List ℕ) NameParseError

abbrev pub Read : Type 0
Read = Result Parts NameParseError

-- ---- one label

prefix_is : (read : Result (List ℕ × List ℕ) LabelParseError) (label rest : List ℕ) → ◌≡◌ {A = Label} (result_map_both (λ prefix. prefix) of_label read) (Ok (label, rest)) → read ≡ Ok (label, rest)
prefix_is (Ok prefix) label rest e = ap Ok (let h : prefix ≡ (label, rest) = cc in h)
prefix_is (Err error) label rest e = absurd cc

pub label_takes : (text label rest : List ℕ) → label_prefix text ≡ Ok (label, rest) → Takes 63 text label rest
label_takes text label rest e = prefix_takes text label rest (prefix_is (prefix_label text) label rest e)

pub label_again : (text label rest : List ℕ) → SpellsLabel text label → length label < 64 → EndsLabel rest → label_prefix (text ++ rest) ≡ Ok (label, rest)
label_again text label rest spells short ends = ap (result_map_both (λ prefix. prefix) of_label) (prefix_again text label rest spells short ends)

-- a dot ends a label's text
pub dot_foreign : IsForeign 46
unfolding is_unescaped
dot_foreign = (refl, λ e. cc)

-- the text after a label is no longer than all of it
pub label_shorter : (text label rest : List ℕ) → label_prefix text ≡ Ok (label, rest) → length rest ≤ length text
label_shorter text label rest e =
    let t = label_takes text label rest e in omega (arith, ap length t.text_is, length-append t.prefix rest)

-- ---- a scan under way

-- these labels are read, and this text is left
pub record Underway (text : List ℕ) (labels : List (List ℕ)) (rest : List ℕ) : Type 0 where
  pub steps : ℕ
  pub enough : length rest < steps
  pub left : name_scan text ≡ parts_within steps labels rest

pub begun : (text : List ℕ) (labels : List (List ℕ)) → labels ≡ [] → Underway text labels text
unfolding name_scan
begun text labels e = rw e (record { steps = suc (length text); enough = omega arith; left = refl })

-- one step
pub stepped : (steps : ℕ) (labels : List (List ℕ)) (text : List ℕ) (read : Label) → label_prefix text ≡ read → parts_within (suc steps) labels text ≡ after_label (λ longer rest. parts_within steps longer rest) labels read
unfolding parts_within
stepped steps labels text read e = ap (after_label (λ longer rest. parts_within steps longer rest) labels) e

unrolled : (steps : ℕ) (labels : List (List ℕ)) (text : List ℕ) (read : Label) → 0 < steps → label_prefix text ≡ read → (fewer : ℕ) × (steps ≡ suc fewer) × (parts_within steps labels text ≡ after_label (λ longer rest. parts_within fewer longer rest) labels read)
unrolled zero labels text read some e = absurd (omega arith)
unrolled (suc steps) labels text read some e = (steps, refl, stepped steps labels text read e)

pub gone_on : (text : List ℕ) (labels new : List (List ℕ)) (rest label next : List ℕ) → Underway text labels rest → label_prefix rest ≡ Ok (label, 46 ∷ next) → fits labels label ≡ true → 0 < length label → new ≡ labels ++ label ∷ [] → Underway text new next
gone_on text labels new rest label next way read fine some e =
    let u = unrolled way.steps labels rest (Ok (label, 46 ∷ next)) (omega (arith, way.enough)) read in
    let full : (length label == 0) ≡ false = ne_eqb (length label) 0 (λ none. omega arith) in
    record {
      steps = u.0;
      enough = omega (arith, way.enough, u.1, label_shorter rest label (46 ∷ next) read);
      left = way.left ∙ u.2 ∙ rw (fine, full, e) refl;
    }

pub failed_scan : (text : List ℕ) (labels : List (List ℕ)) (rest : List ℕ) (error : NameParseError) → Underway text labels rest → label_prefix rest ≡ Err error → name_scan text ≡ Err error
failed_scan text labels rest error way read =
    let u = unrolled way.steps labels rest (Err error) (omega (arith, way.enough)) read in way.left ∙ u.2

pub overlong_scan : (text : List ℕ) (labels : List (List ℕ)) (rest label next : List ℕ) → Underway text labels rest → label_prefix rest ≡ Ok (label, 46 ∷ next) → fits labels label ≡ false → name_scan text ≡ Err errors.Overlong
overlong_scan text labels rest label next way read over =
    let u = unrolled way.steps labels rest (Ok (label, 46 ∷ next)) (omega (arith, way.enough)) read in
    way.left ∙ u.2 ∙ rw over refl

pub empty_scan : (text : List ℕ) (labels : List (List ℕ)) (rest label next : List ℕ) → Underway text labels rest → label_prefix rest ≡ Ok (label, 46 ∷ next) → fits labels label ≡ true → label ≡ [] → name_scan text ≡ Err errors.EmptyLabel
empty_scan text labels rest label next way read fine none =
    let u = unrolled way.steps labels rest (Ok (label, 46 ∷ next)) (omega (arith, way.enough)) read in
    let zero_long : (length label == 0) ≡ true = ap (λ (l : List ℕ). length l == 0) none in
    way.left ∙ u.2 ∙ rw (fine, zero_long) refl

stops : (more : List (List ℕ) → List ℕ → Read) (labels : List (List ℕ)) (label rest : List ℕ) → NoDot rest → after_label more labels (Ok (label, rest)) ≡ Ok (labels, (label, rest))
stops more labels label [] none = refl
stops more labels label (octet ∷ rest) none =
    let apart : (octet == 46) ≡ false = ne_eqb octet 46 none in rw apart refl

pub ended_scan : (text : List ℕ) (labels : List (List ℕ)) (rest label left : List ℕ) → Underway text labels rest → label_prefix rest ≡ Ok (label, left) → NoDot left → name_scan text ≡ Ok (labels, (label, left))
ended_scan text labels rest label left way read none =
    let u = unrolled way.steps labels rest (Ok (label, left)) (omega (arith, way.enough)) read in
    way.left ∙ u.2 ∙ stops (λ longer more. parts_within u.0 longer more) labels label left none

-- ---- what is read

parts_parts : (a x : List (List ℕ)) (b y c z : List ℕ) → ◌≡◌ {A = Read} (Ok (a, (b, c))) (Ok (x, (y, z))) → (a ≡ x) × (b ≡ y) × (c ≡ z)
parts_parts a x b y c z e =
    let h : ◌≡◌ {A = Parts} (a, (b, c)) (x, (y, z)) = cc in
    (ap (λ (p : Parts). p.0) h, ap (λ (p : Parts). p.1.0) h, ap (λ (p : Parts). p.1.1) h)

-- what a scan has read in words: labels that are spelled with dots after them, and a last one
pub record Spelled (before : List (List ℕ)) (text : List ℕ) (labels : List (List ℕ)) (label rest : List ℕ) : Type 0 where
  pub others : List (List ℕ)
  pub prefix : List ℕ
  pub last : List ℕ
  pub labels_are : labels ≡ before ++ others
  pub text_is : text ≡ prefix ++ (last ++ rest)
  pub spells : SpellsLabels prefix others
  pub sizes : AllByRecursion IsLabel others
  pub spells_last : SpellsLabel last label
  pub fits_last : length label ≤ 63
  pub ends : EndsLabel rest
  pub no_dot : NoDot rest

stopped_spelled : (before : List (List ℕ)) (text : List ℕ) (labels : List (List ℕ)) (label rest found left : List ℕ) → label_prefix text ≡ Ok (found, left) → NoDot left → ◌≡◌ {A = Read} (Ok (before, (found, left))) (Ok (labels, (label, rest))) → Spelled before text labels label rest
stopped_spelled before text labels label rest found left read none e =
    let same = parts_parts before labels found label left rest e in
    let t = label_takes text found left read in
    record {
      others = [];
      prefix = [];
      last = t.prefix;
      labels_are = sym same.0 ∙ sym (append-nil before);
      text_is = t.text_is ∙ ap (λ (l : List ℕ). t.prefix ++ l) same.2;
      spells = SpellsLabels.ended;
      sizes = tt;
      spells_last = subst (SpellsLabel t.prefix) same.1 t.spells;
      fits_last = omega (arith, ap length same.1, t.fits);
      ends = subst EndsLabel same.2 t.ends;
      no_dot = subst NoDot same.2 none;
    }

-- a label and a dot before
dotted_spelled : (before : List (List ℕ)) (text : List ℕ) (labels : List (List ℕ)) (label rest found next : List ℕ) → label_prefix text ≡ Ok (found, 46 ∷ next) → 0 < length found → Spelled (before ++ found ∷ []) next labels label rest → Spelled before text labels label rest
dotted_spelled before text labels label rest found next read some trailing =
    let t = label_takes text found (46 ∷ next) read in
    record {
      others = found ∷ trailing.others;
      prefix = t.prefix ++ 46 ∷ trailing.prefix;
      last = trailing.last;
      labels_are = trailing.labels_are ∙ append_assoc before (found ∷ []) trailing.others;
      text_is =
          t.text_is ∙ ap (λ (l : List ℕ). t.prefix ++ 46 ∷ l) trailing.text_is
          ∙ sym (append_assoc t.prefix (46 ∷ trailing.prefix) (trailing.last ++ rest));
      spells = SpellsLabels.dotted t.prefix found trailing.prefix trailing.others t.spells trailing.spells;
      sizes = ((some, omega (arith, t.fits)), trailing.sizes);
      spells_last = trailing.spells_last;
      fits_last = trailing.fits_last;
      ends = trailing.ends;
      no_dot = trailing.no_dot;
    }

-- a label that no dot follows, or one that does
label_spelled : (more : List (List ℕ) → List ℕ → Read) (before : List (List ℕ)) (text : List ℕ) (labels : List (List ℕ)) (label rest : List ℕ) (read : Label) → ((longer : List (List ℕ)) (next : List ℕ) → length next < length text → more longer next ≡ Ok (labels, (label, rest)) → Spelled longer next labels label rest) → label_prefix text ≡ read → after_label more before read ≡ Ok (labels, (label, rest)) → Spelled before text labels label rest
label_spelled more before text labels label rest (Err error) later is e = absurd cc
label_spelled more before text labels label rest (Ok (found, [])) later is e = stopped_spelled before text labels label rest found [] is tt e
label_spelled more before text labels label rest (Ok (found, octet ∷ next)) later is e =
    elim (chosen (octet == 46) _ _ _ e) [
      | inr other ↦ stopped_spelled before text labels label rest found (octet ∷ next) is (eqb-false octet 46 other.0) other.1
      | inl dot ↦
          let same : octet ≡ 46 = eqb-true octet 46 dot.0 in
          let read : label_prefix text ≡ Ok (found, 46 ∷ next) = is ∙ ap (λ (o : ℕ). Ok (found, o ∷ next)) same in
          elim (chosen (fits before found) _ _ _ dot.1) [
            | inr over ↦ absurd (let h = over.1 in cc)
            | inl fine ↦
                elim (chosen (length found == 0) _ _ _ fine.1) [
                  | inl none ↦ absurd (let h = none.1 in cc)
                  | inr some ↦
                      dotted_spelled before text labels label rest found next read (some_octets found (eqb-false (length found) 0 some.0)) (later (before ++ found ∷ []) next (omega (arith, label_shorter text found (46 ∷ next) read)) some.1)
                ]
          ]
    ] where
      some_octets : (found : List ℕ) → length found ≢ 0 → 0 < length found
      some_octets found some = omega arith

within_spelled : (steps : ℕ) (before : List (List ℕ)) (text : List ℕ) (labels : List (List ℕ)) (label rest : List ℕ) → length text < steps → parts_within steps before text ≡ Ok (labels, (label, rest)) → Spelled before text labels label rest
unfolding parts_within
within_spelled zero before text labels label rest enough e = absurd (omega arith)
within_spelled (suc steps) before text labels label rest enough e =
    label_spelled (λ longer next. parts_within steps longer next) before text labels label rest (label_prefix text)
    (λ longer next shorter h. within_spelled steps longer next labels label rest (omega arith) h) refl e

scan_spelled : (text : List ℕ) (labels : List (List ℕ)) (label rest : List ℕ) → name_scan text ≡ Ok (labels, (label, rest)) → Spelled [] text labels label rest
unfolding name_scan
scan_spelled text labels label rest e = within_spelled (suc (length text)) [] text labels label rest (omega arith) e

-- nothing spells the empty label
spells_none : (text contents : List ℕ) → contents ≡ [] → SpellsLabel text contents → text ≡ []
spells_none text contents none SpellsLabel.ended = refl
spells_none text contents none (SpellsLabel.itself octet more octets plain spells) = absurd cc
spells_none text contents none (SpellsLabel.backslash octet more octets graphic no_digit spells) = absurd cc
spells_none text contents none (SpellsLabel.digits a b c more octets is_a is_b is_c small spells) = absurd cc

-- a scan that ended after a dot
record Rooted (text : List ℕ) (labels : List (List ℕ)) (rest : List ℕ) : Type 0 where
  prefix : List ℕ
  text_is : text ≡ prefix ++ rest
  spells : SpellsLabels prefix labels
  name : IsName labels
  ends : EndsName rest

ends_name : (rest : List ℕ) → EndsLabel rest → NoDot rest → EndsName rest
ends_name [] ends none = tt
ends_name (octet ∷ rest) ends none = (ends, none)

fitting : (labels : List (List ℕ)) → fits labels [] ≡ true → length (wire labels) ≤ 255
fitting labels fine =
    let room : length (labels_wire labels) + 1 ≤ 255 = leb-true (length (labels_wire labels) + 1) 255 fine in omega (arith, room, wire_long labels)

scan_rooted : (text : List ℕ) (labels : List (List ℕ)) (rest : List ℕ) → name_scan text ≡ Ok (labels, ([], rest)) → fits labels [] ≡ true → Rooted text labels rest
scan_rooted text labels rest e fine =
    let t = scan_spelled text labels [] rest e in
    record {
      prefix = t.prefix;
      text_is = t.text_is ∙ ap (λ (l : List ℕ). t.prefix ++ (l ++ rest)) (spells_none t.last [] refl t.spells_last);
      spells = subst (SpellsLabels t.prefix) (sym t.labels_are) t.spells;
      name = record { sizes = subst (AllByRecursion IsLabel) (sym t.labels_are) t.sizes; size = fitting labels fine };
      ends = ends_name rest t.ends t.no_dot;
    }

-- ---- what is spelled is read

ends_label : (rest : List ℕ) → EndsName rest → EndsLabel rest
ends_label [] ends = tt
ends_label (octet ∷ rest) ends = ends.0

ends_dotless : (rest : List ℕ) → EndsName rest → NoDot rest
ends_dotless [] ends = tt
ends_dotless (octet ∷ rest) ends = ends.1

within_again : (steps : ℕ) (before : List (List ℕ)) (text : List ℕ) (labels : List (List ℕ)) (rest : List ℕ) → SpellsLabels text labels → AllByRecursion IsLabel labels → length (labels_wire (before ++ labels)) ≤ 255 → EndsName rest → length (text ++ rest) < steps → parts_within steps before (text ++ rest) ≡ Ok (before ++ labels, ([], rest))
within_again zero before text labels rest spells sizes short ends enough = absurd (omega arith)
within_again (suc steps) before text labels rest SpellsLabels.ended sizes short ends enough =
    stepped steps before rest (Ok ([], rest)) (label_again [] [] rest SpellsLabel.ended (omega arith) (ends_label rest ends))
    ∙ stops (λ longer next. parts_within steps longer next) before [] rest (ends_dotless rest ends)
    ∙ ap (λ (l : List (List ℕ)). Ok (l, ([], rest))) (sym (append-nil before))
within_again (suc steps) before text labels rest (SpellsLabels.dotted spelled octets more others spells trailing) sizes short ends enough =
    let regrouped : (spelled ++ 46 ∷ more) ++ rest ≡ spelled ++ 46 ∷ (more ++ rest) = append_assoc spelled (46 ∷ more) rest in
    let read : label_prefix (spelled ++ 46 ∷ (more ++ rest)) ≡ Ok (octets, 46 ∷ (more ++ rest)) = label_again spelled octets (46 ∷ (more ++ rest)) spells sizes.0.1 dot_foreign in
    let longer : (before ++ octets ∷ []) ++ others ≡ before ++ octets ∷ others = append_assoc before (octets ∷ []) others in
    let long : length (labels_wire (before ++ octets ∷ others)) ≡ length (labels_wire before) + (suc (length octets) + length (labels_wire others)) = ap length (labels_wire-append before (octets ∷ others)) ∙ length-append (labels_wire before) (labels_wire (octets ∷ others)) ∙ ap (λ (n : ℕ). length (labels_wire before) + suc n) (length-append octets (labels_wire others)) ∙ omega arith in
    let fine : fits before octets ≡ true = le-leb (length (labels_wire before) + suc (length octets)) 255 (omega (arith, long)) in
    let full : (length octets == 0) ≡ false = ne_eqb (length octets) 0 (λ none. omega (arith, sizes.0.0)) in
    ap (parts_within (suc steps) before) regrouped
    ∙ stepped steps before (spelled ++ 46 ∷ (more ++ rest)) (Ok (octets, 46 ∷ (more ++ rest))) read
    ∙ rw (fine, full) refl
    ∙ within_again steps (before ++ octets ∷ []) more others rest trailing sizes.1
    (omega (arith, ap (λ (l : List (List ℕ)). length (labels_wire l)) longer)) ends
    (omega (arith, ap length regrouped, length-append spelled (46 ∷ (more ++ rest))))
    ∙ ap (λ (l : List (List ℕ)). Ok (l, ([], rest))) longer

scan_again : (text : List ℕ) (labels : List (List ℕ)) (rest : List ℕ) → SpellsLabels text labels → IsName labels → EndsName rest → name_scan (text ++ rest) ≡ Ok (labels, ([], rest))
unfolding name_scan
scan_again text labels rest spells name ends =
    within_again (suc (length (text ++ rest))) [] text labels rest spells name.sizes (omega (arith, name.size, wire_long labels)) ends (omega arith)

name_fits : (labels : List (List ℕ)) → IsName labels → fits labels [] ≡ true
name_fits labels name = le-leb (length (labels_wire labels) + 1) 255 (omega (arith, name.size, wire_long labels))

-- ---- whole texts, and the prefixes of texts

at_end_is : (labels : List (List ℕ)) (label rest : List ℕ) (name : List (List ℕ)) → at_end labels label rest ≡ Ok name → (labels ≡ name) × (label ≡ []) × (rest ≡ [])
at_end_is labels label (octet ∷ rest) name e = absurd cc
at_end_is labels [] [] name e = (cc, refl, refl)
at_end_is labels (octet ∷ others) [] name e = absurd cc

whole_is : (read : Read) (labels : List (List ℕ)) → whole_name_text read ≡ Ok labels → (read ≡ Ok (labels, ([], []))) × (fits labels [] ≡ true)
whole_is (Err error) labels e = absurd cc
whole_is (Ok (found, (label, rest))) labels e =
    elim (chosen (fits found label) _ _ _ e) [
      | inl fine ↦
          let same = at_end_is found label rest labels fine.1 in
          (rw (same.0, same.1, same.2) refl, sym (ap (λ (l : List (List ℕ)). fits l []) same.0) ∙ sym (ap (fits found) same.1) ∙ fine.0)
      | inr over ↦ absurd (let h = over.1 in cc)
    ]

pub parsed_takes : (text : List ℕ) (labels : List (List ℕ)) → parsed_name text ≡ Ok labels → SpellsLabels text labels × IsName labels
parsed_takes text labels e =
    let w = whole_is (name_scan text) labels e in
    let t = scan_rooted text labels [] w.0 w.1 in
    (subst (λ (l : List ℕ). SpellsLabels l labels) (sym (t.text_is ∙ append-nil t.prefix)) t.spells, t.name)

pub parsed_again : (text : List ℕ) (labels : List (List ℕ)) → SpellsLabels text labels → IsName labels → parsed_name text ≡ Ok labels
parsed_again text labels spells name =
    ap (λ (l : List ℕ). whole_name_text (name_scan l)) (sym (append-nil text)) ∙ ap whole_name_text (scan_again text labels [] spells name tt)
    ∙ rw (name_fits labels name) refl

abbrev Prefix : Type 0
Prefix = Result (List (List ℕ) × List ℕ) NameSplitError

prefix_parts : (a b : List (List ℕ)) (x y : List ℕ) → ◌≡◌ {A = Prefix} (Ok (a, x)) (Ok (b, y)) → (a ≡ b) × (x ≡ y)
prefix_parts a b x y e =
    let h : ◌≡◌ {A = List (List ℕ) × List ℕ} (a, x) (b, y) = cc in
    (ap (λ (p : List (List ℕ) × List ℕ). p.0) h, ap (λ (p : List (List ℕ) × List ℕ). p.1) h)

at_octet_is : (labels name : List (List ℕ)) (label rest left : List ℕ) → at_octet labels label rest ≡ Ok (name, left) → (labels ≡ name) × (label ≡ []) × (rest ≡ left)
at_octet_is labels name [] rest left e = let same = prefix_parts labels name rest left e in (same.0, refl, same.1)
at_octet_is labels name (octet ∷ others) rest left e = absurd cc

prefix_of_is : (read : Read) (labels : List (List ℕ)) (rest : List ℕ) → name_at_start read ≡ Ok (labels, rest) → (read ≡ Ok (labels, ([], rest))) × (fits labels [] ≡ true) × (rest ≢ [])
prefix_of_is (Err error) labels rest e = absurd cc
prefix_of_is (Ok (found, (label, []))) labels rest e = absurd cc
prefix_of_is (Ok (found, (label, octet ∷ left))) labels rest e =
    elim (chosen (fits found label) _ _ _ e) [
      | inl fine ↦
          let same = at_octet_is found labels label (octet ∷ left) rest fine.1 in (
            rw (same.0, same.1, same.2) refl,
            sym (ap (λ (l : List (List ℕ)). fits l []) same.0) ∙ sym (ap (fits found) same.1) ∙ fine.0,
            λ none. let h = same.2 ∙ none in cc,
          )
      | inr over ↦ absurd (let h = over.1 in cc)
    ]

pub split_takes : (text rest : List ℕ) (labels : List (List ℕ)) → split_name text ≡ Ok (labels, rest) → (prefix : List ℕ) × (text ≡ prefix ++ rest) × SpellsLabels prefix labels × IsName labels × (rest ≢ []) × EndsName rest
split_takes text rest labels e =
    let w = prefix_of_is (name_scan text) labels rest e in
    let t = scan_rooted text labels rest w.0 w.1 in
    (t.prefix, t.text_is, t.spells, t.name, w.2, t.ends)

prefix_whole : (labels : List (List ℕ)) (rest : List ℕ) → IsName labels → rest ≢ [] → name_at_start (Ok (labels, ([], rest))) ≡ Ok (labels, rest)
prefix_whole labels [] name some = absurd (some refl)
prefix_whole labels (octet ∷ rest) name some = rw (name_fits labels name) refl

pub split_again : (text rest : List ℕ) (labels : List (List ℕ)) → SpellsLabels text labels → IsName labels → rest ≢ [] → EndsName rest → split_name (text ++ rest) ≡ Ok (labels, rest)
split_again text rest labels spells name some ends = ap name_at_start (scan_again text labels rest spells name ends) ∙ prefix_whole labels rest name some

-- ---- what is printed

shown_more : (label : List ℕ) (labels : List (List ℕ)) → shown_name (label ∷ labels) ≡ shown_label label ++ 46 ∷ shown_name labels
shown_more label labels = append_assoc (shown_label label) (46 ∷ []) (shown_name labels)

pub names_spell : (labels : List (List ℕ)) → AllByRecursion AreOctets labels → SpellsLabels (shown_name labels) labels
names_spell [] octets = SpellsLabels.ended
names_spell (label ∷ labels) octets =
    subst (λ (l : List ℕ). SpellsLabels l (label ∷ labels)) (sym (shown_more label labels))
    (SpellsLabels.dotted (shown_label label) label (shown_name labels) labels (shown_spells label octets.0) (names_spell labels octets.1))

pub names_plain : (labels : List (List ℕ)) → AllByRecursion AreOctets labels → AreUnescapedTexts (shown_name labels)
names_plain [] octets = AreUnescapedTexts.ended
names_plain (label ∷ labels) octets =
    subst AreUnescapedTexts (sym (shown_more label labels))
    (AreUnescapedTexts.dotted (shown_label label) (shown_name labels) (shown_plain label octets.0) (names_plain labels octets.1))

-- the first label of a text
record First (text : List ℕ) (labels : List (List ℕ)) : Type 0 where
  spelled : List ℕ
  octets : List ℕ
  more : List ℕ
  others : List (List ℕ)
  text_is : text ≡ spelled ++ 46 ∷ more
  labels_are : labels ≡ octets ∷ others
  spells : SpellsLabel spelled octets
  trailing : SpellsLabels more others

first_of : (text : List ℕ) (labels : List (List ℕ)) → SpellsLabels text labels → ((text ≡ []) × (labels ≡ [])) ⊎ First text labels
first_of text labels SpellsLabels.ended = inl (refl, refl)
first_of text labels (SpellsLabels.dotted spelled octets more others spells trailing) =
    inr (record { spelled = spelled; octets = octets; more = more; others = others; text_is = refl; labels_are = refl; spells = spells; trailing = trailing })

pub names_shown : (text : List ℕ) (labels : List (List ℕ)) → AreUnescapedTexts text → SpellsLabels text labels → text ≡ shown_name labels
names_shown text labels AreUnescapedTexts.ended spells =
    elim (first_of [] labels spells) [
      | inl none ↦ ap shown_name (sym none.1)
      | inr first ↦ absurd (omega (arith, ap length first.text_is, length-append first.spelled (46 ∷ first.more)))
    ]
names_shown text labels (AreUnescapedTexts.dotted spelled more plain trailing) spells =
    elim (first_of (spelled ++ 46 ∷ more) labels spells) [
      | inl none ↦ absurd (omega (arith, ap length none.0, length-append spelled (46 ∷ more)))
      | inr first ↦
          let p = plain_printed spelled plain in
          let same = spelled_apart spelled first.spelled p.contents first.octets (46 ∷ more) (46 ∷ first.more) first.text_is p.spells first.spells dot_foreign dot_foreign in
          let left : more ≡ first.more = let h = same.1 in cc in
          ap (λ (l : List ℕ). l ++ 46 ∷ more) (p.text_is ∙ ap shown_label same.0)
          ∙ ap (λ (l : List ℕ). shown_label first.octets ++ 46 ∷ l) (names_shown more first.others trailing (subst (λ (l : List ℕ). SpellsLabels l first.others) (sym left) first.trailing))
          ∙ sym (shown_more first.octets first.others)
          ∙ ap shown_name (sym first.labels_are)
    ]

-- ---- no prefix of a text is refused for an octet that no text of a name has

of_label_invalid : (error : LabelParseError) → of_label error ≡ errors.InvalidChar → error ≡ label_errors.InvalidChar
of_label_invalid label_errors.Overlong e = absurd cc
of_label_invalid label_errors.InvalidChar e = refl
of_label_invalid label_errors.PartialEscape e = absurd cc
of_label_invalid label_errors.InvalidEscape e = absurd cc

mapped_never : (read : Result (List ℕ × List ℕ) LabelParseError) → read ≢ Err label_errors.InvalidChar → ◌≢◌ {A = Label} (result_map_both (λ prefix. prefix) of_label read) (Err errors.InvalidChar)
mapped_never (Ok prefix) never e = cc
mapped_never (Err error) never e = never (ap Err (of_label_invalid error (let h : of_label error ≡ errors.InvalidChar = cc in h)))

label_never : (more : List (List ℕ) → List ℕ → Read) (before : List (List ℕ)) (text : List ℕ) (read : Label) → ((longer : List (List ℕ)) (next : List ℕ) → length next < length text → more longer next ≢ Err errors.InvalidChar) → label_prefix text ≡ read → after_label more before read ≢ Err errors.InvalidChar
label_never more before text (Err error) later is e = mapped_never (prefix_label text) (prefix_never text) (is ∙ e_as_label) where
  e_as_label : ◌≡◌ {A = Label} (Err error) (Err errors.InvalidChar)
  e_as_label = ap Err (let h : error ≡ errors.InvalidChar = cc in h)
label_never more before text (Ok (found, [])) later is e = cc
label_never more before text (Ok (found, octet ∷ next)) later is e =
    elim (chosen (octet == 46) _ _ _ e) [
      | inr other ↦ let h = other.1 in cc
      | inl dot ↦
          elim (chosen (fits before found) _ _ _ dot.1) [
            | inr over ↦ let h = over.1 in cc
            | inl fine ↦
                elim (chosen (length found == 0) _ _ _ fine.1) [
                  | inl none ↦ let h = none.1 in cc
                  | inr some ↦ later (before ++ found ∷ []) next (omega (arith, label_shorter text found (octet ∷ next) is)) some.1
                ]
          ]
    ]

within_never : (steps : ℕ) (before : List (List ℕ)) (text : List ℕ) → length text < steps → parts_within steps before text ≢ Err errors.InvalidChar
unfolding parts_within
within_never zero before text enough e = absurd (omega arith)
within_never (suc steps) before text enough e =
    label_never (λ longer next. parts_within steps longer next) before text (label_prefix text)
    (λ longer next shorter. within_never steps longer next (omega arith)) refl e

scan_never : (text : List ℕ) → name_scan text ≢ Err errors.InvalidChar
unfolding name_scan
scan_never text = within_never (suc (length text)) [] text (omega arith)

of_prefix_invalid : (error : NameParseError) → of_prefix error ≡ split_errors.InvalidChar → error ≡ errors.InvalidChar
of_prefix_invalid errors.Overlong e = absurd cc
of_prefix_invalid errors.Relative e = absurd cc
of_prefix_invalid errors.EmptyLabel e = absurd cc
of_prefix_invalid errors.OverlongLabel e = absurd cc
of_prefix_invalid errors.InvalidChar e = refl
of_prefix_invalid errors.PartialEscape e = absurd cc
of_prefix_invalid errors.InvalidEscape e = absurd cc

at_octet_never : (labels : List (List ℕ)) (label rest : List ℕ) → at_octet labels label rest ≢ Err split_errors.InvalidChar
at_octet_never labels [] rest e = cc
at_octet_never labels (octet ∷ others) rest e = cc

prefix_of_never : (read : Read) → read ≢ Err errors.InvalidChar → name_at_start read ≢ Err split_errors.InvalidChar
prefix_of_never (Err error) never e = never (ap Err (of_prefix_invalid error (let h : of_prefix error ≡ split_errors.InvalidChar = cc in h)))
prefix_of_never (Ok (found, (label, []))) never e = cc
prefix_of_never (Ok (found, (label, octet ∷ left))) never e =
    elim (chosen (fits found label) _ _ _ e) [
      | inl fine ↦ at_octet_never found label (octet ∷ left) fine.1
      | inr over ↦ let h = over.1 in cc
    ]

pub split_never : (text : List ℕ) → split_name text ≢ Err split_errors.InvalidChar
split_never text = prefix_of_never (name_scan text) (scan_never text)
