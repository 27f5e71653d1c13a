-- A name that is written in a message: labels, and then the root or a pointer.
use Rattle.std.proofs.Common.{◌≡◌, ℕ, ◌+◌, ◌*◌, ◌<◌, ◌≤◌, List, [], ◌∷◌, ◌++◌, length, get_or, take, drop, Option, Some, None, refl, sym, ap, subst, ◌∙◌, append_assoc, arith, add-zero, Ok, Err}
use Rattle.std.specs.Prelude.{slice_index, Contains, ⊤, IfSome}
use Rattle.std.specs.Int.{w16, to_be_bytes}
use Rattle.std.specs.List.{AllByRecursion}
use Rattle.std.proofs.lemmas.List.{get_or-drop, drop-drop, take_at, drop_at, length-append, length-take, length-drop, take-take}
use Rattle.std.proofs.lemmas.List.Elements.{All-contains, All-from_recursion}
use Rattle.std.proofs.Math.Seq.{drop-append-add}
use Rattle.dns_wire.specs.Building.{Occurs, Builds}
use Rattle.dns_wire.specs.Compression.{Run, FitsIn, Grows, longest_recorded, RecordedSuffix, cut_at, compress, recorded, compressed_name_writes}
use Rattle.dns_wire.specs.Compression.Run.{run_root, run_label, run_pointer}
use Rattle.dns_wire.specs.InMessage.{BuildsIn}
use Rattle.dns_wire.specs.Names.{labels_wire, wire, IsLabel, IsName}
use Rattle.dns_wire.specs.declared.sizes.TheConstants.{HEADER_SIZE, LAST_PLACE, POINTER_TAG}
use Rattle.dns_wire.proofs.RunLemmas.{runs_before}
use Rattle.dns_wire.proofs.BuildingLemmas.{occurs_prefix, occurs_long}
use Rattle.dns_wire.proofs.CompressionLemmas.{known_is}
use Rattle.dns_wire.proofs.Walk.{wire_long, labels_wire-append}

-- ---- octets at a place

pub record OctetAt (contents : List ℕ) (at x : ℕ) (rest : List ℕ) : Type 0 where
  pub is : slice_index contents at ≡ x
  pub within : at < length contents
  pub later : drop (at + 1) contents ≡ rest

pub octet_at : (contents : List ℕ) (at x : ℕ) (rest : List ℕ) → drop at contents ≡ x ∷ rest → OctetAt contents at x rest
octet_at contents at x rest e =
    record {
      is = sym (ap (λ (n : ℕ). get_or contents n 0) (add-zero at)) ∙ sym (get_or-drop at contents 0 0) ∙ ap (λ (l : List ℕ). get_or l 0 0) e;
      within = omega (arith, length-drop at contents, ap length e);
      later = sym (drop-drop 1 at contents) ∙ ap (drop 1) e;
    }

pub record LabelAt (contents : List ℕ) (at : ℕ) (label rest : List ℕ) : Type 0 where
  pub size : slice_index contents at ≡ length label
  pub room : at + 1 + length label ≤ length contents
  pub body : take (length label) (drop (at + 1) contents) ≡ label
  pub later : drop (at + 1 + length label) contents ≡ rest

pub label_at : (contents : List ℕ) (at : ℕ) (label rest : List ℕ) → drop at contents ≡ length label ∷ (label ++ rest) → LabelAt contents at label rest
label_at contents at label rest e =
    let o = octet_at contents at (length label) (label ++ rest) e in
    record {
      size = o.is;
      room = omega (arith, length-drop (at + 1) contents, ap length o.later, length-append label rest, o.within);
      body = ap (take (length label)) o.later ∙ take_at label rest (length label) refl;
      later = sym (drop-drop (length label) (at + 1) contents) ∙ ap (drop (length label)) o.later ∙ drop_at label rest (length label) refl;
    }

-- ---- labels, and what is after them

module _ (contents places : List ℕ) (first : ℕ) where
  pub run_labels_wire : (labels : List (List ℕ)) (tail : List ℕ) (at : ℕ) → AllByRecursion IsLabel labels → drop at contents ≡ labels_wire labels ++ tail → Run contents places first (at + length (labels_wire labels)) → Run contents places first at
  run_labels_wire [] tail at sizes e run = rw add-zero at run
  run_labels_wire (label ∷ labels) tail at sizes e run =
      let l = label_at contents at label (labels_wire labels ++ tail) (e ∙ ap (λ (b : List ℕ). length label ∷ b) (append_assoc label (labels_wire labels) tail)) in
      let place : at + length (labels_wire (label ∷ labels)) ≡ at + 1 + length label + length (labels_wire labels) = omega (arith, length-append label (labels_wire labels)) in
      run_label (rw l.size sizes.0.0) (rw l.size sizes.0.1) (rw l.size l.room) (rw l.size (run_labels_wire labels tail (at + 1 + length label) sizes.1 l.later (rw place at run)))

  pub run_at_root : (at : ℕ) → drop at contents ≡ 0 ∷ [] → Run contents places first at
  run_at_root at e = let o = octet_at contents at 0 [] e in run_root o.within o.is

  pub run_at_pointer : (at place : ℕ) → place ≤ LAST_PLACE → drop at contents ≡ to_be_bytes w16 (POINTER_TAG * 256 + HEADER_SIZE + place) → Contains places place → place < first → Run contents places first at
  run_at_pointer at place low e recorded before =
      let n : ℕ = POINTER_TAG * 256 + HEADER_SIZE + place in
      let o = octet_at contents at _ _ e in
      let p = octet_at contents (at + 1) _ _ o.later in
      run_pointer place (rw o.is (omega arith)) (omega (arith, p.within)) (rw (o.is, p.is) (omega arith)) recorded before

-- ---- a recorded place

module _ (contents places : List ℕ) (fits : FitsIn places contents) (place : ℕ) (recorded : Contains places place) where
  pub recorded_low : place ≤ LAST_PLACE
  recorded_low = All-contains (λ p. p ≤ LAST_PLACE) places place (All-from_recursion (λ p. p ≤ LAST_PLACE) places fits.places_are.low) recorded

  pub recorded_before : place < length contents
  recorded_before = All-contains (λ p. p < length contents) places place (All-from_recursion (λ p. p < length contents) places (runs_before contents places places fits.runs)) recorded

-- ---- what is written

pub sizes_prefix : (before suffix : List (List ℕ)) → AllByRecursion IsLabel (before ++ suffix) → AllByRecursion IsLabel before
sizes_prefix [] suffix sizes = tt
sizes_prefix (label ∷ before) suffix sizes = (sizes.0, sizes_prefix before suffix sizes.1)

pub labels_wire_prefix : (before suffix : List (List ℕ)) (n : ℕ) → n ≡ length (labels_wire before) → take n (wire (before ++ suffix)) ≡ labels_wire before
labels_wire_prefix before suffix n e = ap (take n) (ap (λ (l : List ℕ). l ++ 0 ∷ []) (labels_wire-append before suffix) ∙ append_assoc (labels_wire before) (labels_wire suffix) (0 ∷ [])) ∙ take_at (labels_wire before) (labels_wire suffix ++ 0 ∷ []) n (sym e)

pub cut_is : (contents places : List ℕ) (labels : List (List ℕ)) (prefix place : ℕ) (cut : RecordedSuffix contents places labels prefix place) → cut_at (wire labels) (Some (prefix, place)) ≡ labels_wire cut.before ++ to_be_bytes w16 (POINTER_TAG * 256 + HEADER_SIZE + place)
cut_is contents places labels prefix place cut =
    ap (λ (l : List ℕ). l ++ to_be_bytes w16 (POINTER_TAG * 256 + HEADER_SIZE + place)) (ap (λ (l : List (List ℕ)). take prefix (wire l)) cut.labels_is ∙ labels_wire_prefix cut.before cut.suffix prefix cut.prefix_is)

pub trailing : (contents prefix tail : List ℕ) → drop (length contents + length prefix) (contents ++ (prefix ++ tail)) ≡ tail
trailing contents prefix tail = drop-append-add contents (prefix ++ tail) (length prefix) ∙ drop_at prefix tail (length prefix) refl

module _ (contents places : List ℕ) (labels : List (List ℕ)) (is : IsName labels) (fits : FitsIn places contents) where
  -- what the builder asks of a cut
  pub cut_fits : (known : Option (ℕ × ℕ)) → longest_recorded contents places 0 labels ≡ known → IfSome known (λ k. (k.0 ≤ length (wire labels)) × (k.1 ≤ LAST_PLACE))
  cut_fits None e = tt
  cut_fits (Some (prefix, place)) e =
      let c = known_is contents places labels prefix place e in
      (omega (arith, c.prefix_is, wire_long labels, ap (λ (l : List (List ℕ)). length (labels_wire l)) c.labels_is, ap length (labels_wire-append c.before c.suffix), length-append (labels_wire c.before) (labels_wire c.suffix)), recorded_low contents places fits place c.recorded)

  name_run_by : (known : Option (ℕ × ℕ)) → longest_recorded contents places 0 labels ≡ known → Run (contents ++ cut_at (wire labels) known) places (length contents) (length contents)
  name_run_by None e =
      let all : List ℕ = contents ++ wire labels in
      let here : drop (length contents) all ≡ labels_wire labels ++ 0 ∷ [] = drop_at contents (wire labels) (length contents) refl in
      run_labels_wire all places (length contents) labels (0 ∷ []) (length contents) is.sizes here
      (run_at_root all places (length contents) (length contents + length (labels_wire labels)) (trailing contents (labels_wire labels) (0 ∷ [])))
  name_run_by (Some (prefix, place)) e =
      let c = known_is contents places labels prefix place e in
      let pointer : List ℕ = to_be_bytes w16 (POINTER_TAG * 256 + HEADER_SIZE + place) in
      let all : List ℕ = contents ++ (labels_wire c.before ++ pointer) in
      let here : drop (length contents) all ≡ labels_wire c.before ++ pointer = drop_at contents (labels_wire c.before ++ pointer) (length contents) refl in
      let sizes : AllByRecursion IsLabel c.before = sizes_prefix c.before c.suffix (subst (AllByRecursion IsLabel) c.labels_is is.sizes) in
      subst (λ (o : List ℕ). Run (contents ++ o) places (length contents) (length contents)) (sym (cut_is contents places labels prefix place c))
      (run_labels_wire all places (length contents) c.before pointer (length contents) sizes here
      (run_at_pointer all places (length contents) (length contents + length (labels_wire c.before)) place (recorded_low contents places fits place c.recorded) (trailing contents (labels_wire c.before) pointer) c.recorded (recorded_before contents places fits place c.recorded)))

  -- the labels that are written end in the root or in a pointer to a recorded place
  pub name_run : Run (contents ++ compress contents places labels) places (length contents) (length contents)
  name_run = name_run_by (longest_recorded contents places 0 labels) refl

-- ---- the whole law

module _ (labels : List (List ℕ)) (old new places : List ℕ) (start end : ℕ) (is : IsName labels) (room : start ≤ length old) (fits : FitsIn places (take start old)) (s : Occurs (compress (take start old) places labels) old start new end) where
  prefix_long : length (take start old) ≡ start
  prefix_long = omega (arith, length-take start old)

  written : take end new ≡ take start old ++ compress (take start old) places labels
  written = occurs_prefix s

  before : take start new ≡ take start old
  before =
      sym (take-take start end new (omega (arith, s.end_is)))
      ∙ ap (take start) written
      ∙ take_at (take start old) (compress (take start old) places labels) start prefix_long

  -- what noting asks
  pub name_recorded_within : end ≤ length new
  name_recorded_within = omega (arith, occurs_long s, s.within)

  pub name_recorded_fits : FitsIn places (take start new)
  name_recorded_fits = subst (FitsIn places) (sym before) fits

  pub name_recorded_run : Run (take end new) places start start
  name_recorded_run =
      subst (λ (w : List ℕ). Run w places start start) (sym written)
      (subst (λ (n : ℕ). Run (take start old ++ compress (take start old) places labels) places n n) prefix_long (name_run (take start old) places labels is fits))

  pub name_built : {E : Type 0} (after : List ℕ) → after ≡ recorded places (take end new) start → Grows places after start → FitsIn after (take end new) → BuildsIn {E = E} ⊤ (compressed_name_writes labels (take start old) places) old start places new after (Ok end)
  name_built after after_is grows leads =
      let again : recorded places (take end new) start ≡ (compressed_name_writes labels (take start old) places).1 =
      ap (λ (w : List ℕ). recorded places w start) written ∙ ap (recorded places (take start old ++ compress (take start old) places labels)) (sym prefix_long) in
      record { accepted = tt; occurs = s; after_is = after_is ∙ again; grows = grows; leads = leads; refused = tt; prefix = tt; size = tt; unchanged = tt }

-- a refusal changes nothing before the start, and no place
pub name_refused : {E F : Type 0} (labels : List (List ℕ)) (octets old new places : List ℕ) (start : ℕ) (e : E) (f : F) → octets ≡ compress (take start old) places labels → Builds ⊤ octets old start new (Err e) → BuildsIn ⊤ (compressed_name_writes labels (take start old) places) old start places new places (Err f)
name_refused labels octets old new places start e f is b =
    record { accepted = tt; occurs = tt; after_is = tt; grows = tt; leads = tt; refused = rw (← is) b.err.2; prefix = b.err.0; size = b.err.1; unchanged = refl }
