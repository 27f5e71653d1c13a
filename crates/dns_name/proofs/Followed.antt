-- Following a name in a message label by label.
use Rattle.std.proofs.Common.{◌≡◌, ℕ, zero, suc, pred, ◌+◌, ◌-◌, ◌<◌, ◌≤◌, true, false, ltb, List, [], ◌∷◌, ◌++◌, length, take, drop, Option, Some, None, refl, sym, ap, ◌∙◌, append_assoc, arith, add-one}
use Rattle.std.specs.Prelude.{unwrap_or, slice_index, slice_range, Result, Ok, Err, IfOk, OnErr}
use Rattle.std.specs.List.{AllByRecursion}
use Rattle.std.proofs.lemmas.Bool.{lt-ltb, le-ltb}
use Rattle.std.proofs.lemmas.List.{length-append, length-take, length-drop, append-nil}
use Rattle.std.proofs.Math.Seq.{drop-cons}
use Rattle.dns_wire.specs.Reading.{Gives, all_of}
use Rattle.dns_wire.specs.declared.name_cursor.LabelType.{LabelType}
use Rattle.dns_wire.specs.declared.name_cursor.LabelType.TheVariants.{Root, Label, Pointer}
use Rattle.dns_wire.specs.Names.{labels_wire, wire, IsLabel, plain_name, name_labels}
use Rattle.dns_wire.specs.Pointers.{NameAt, label_type_at, joined, after_label_type, segment_within, short_name, name_at}
use Rattle.dns_wire.proofs.Following.{name_at_is, name_at_finds}
use Rattle.dns_wire.proofs.Walk.{AllByRecursion-append, labels_wire-append, wire_long, plain_wire}

abbrev Found : Type 0
Found = Option (List (List ℕ) × ℕ)

joined_none : (read : Found) → joined [] None read ≡ read
joined_none None = refl
joined_none (Some found) = refl

joined_label : (labels : List (List ℕ)) (label : List ℕ) (end : Option ℕ) (read : Found) → joined labels end (joined (label ∷ []) None read) ≡ joined (labels ++ label ∷ []) end read
joined_label labels label end None = refl
joined_label labels label end (Some found) = rw append_assoc refl

joined_pointer : (labels : List (List ℕ)) (end : Option ℕ) (at : ℕ) (read : Found) → joined labels end (joined [] (Some at) read) ≡ joined labels (Some (unwrap_or end at)) read
joined_pointer labels end at None = refl
joined_pointer labels end at (Some found) = refl

-- a step
unrolled : (steps : ℕ) (contents : List ℕ) (segment at : ℕ) → 0 < steps → segment_within steps contents segment at ≡ after_label_type (segment_within (pred steps) contents) contents segment at (label_type_at contents segment at)
unfolding segment_within
unrolled zero contents segment at some = absurd (omega arith)
unrolled (suc steps) contents segment at some = refl

abbrev pub EndFits : List ℕ → ℕ → ℕ → Option ℕ → Type 0
EndFits contents start at None = start ≤ at
EndFits contents start at (Some end) = (start ≤ end) × (end ≤ length contents)

-- the labels of prefix have been read, and those of the name from start on are these and what is read at a place
pub record Followed (contents : List ℕ) (start segment at : ℕ) (end : Option ℕ) (prefix : List ℕ) : Type 0 where
  pub steps : ℕ
  pub labels : List (List ℕ)
  pub sizes : AllByRecursion IsLabel labels
  pub prefix_is : prefix ≡ labels_wire labels
  pub short : length prefix < 255
  pub room : 256 + segment ≤ steps + length prefix
  pub reads : segment_within (256 + start) contents start start ≡ joined labels end (segment_within steps contents segment at)
  pub ends : EndFits contents start at end

pub followed_none : (contents : List ℕ) (start : ℕ) → Followed contents start start start None []
followed_none contents start =
    record { steps = 256 + start; labels = []; sizes = tt; prefix_is = refl; short = omega arith; room = omega arith; reads = sym (joined_none _); ends = omega arith }

-- what follows from the label type at the place
read_label_type_is : (contents : List ℕ) (start segment at : ℕ) (end : Option ℕ) (prefix : List ℕ) (label_type : Option LabelType) (followed : Followed contents start segment at end prefix) → label_type_at contents segment at ≡ label_type → segment_within (256 + start) contents start start ≡ joined followed.labels end (after_label_type (segment_within (pred followed.steps) contents) contents segment at label_type)
read_label_type_is contents start segment at end prefix label_type followed is =
    followed.reads
    ∙ ap (joined followed.labels end) (unrolled followed.steps contents segment at (omega (arith, followed.room, followed.short))
    ∙ ap (after_label_type (segment_within (pred followed.steps) contents) contents segment at) is)

next_octet : (contents : List ℕ) (at : ℕ) → at < length contents → drop at contents ≡ slice_index contents at ∷ drop (at + 1) contents
next_octet contents at within = rw add-one (drop-cons contents at 0 within)

pred_less : (n : ℕ) → 0 < n → pred n + 1 ≡ n
pred_less zero some = absurd (omega arith)
pred_less (suc n) some = omega arith

module _ (contents : List ℕ) (start segment at size : ℕ) (end : Option ℕ) (prefix : List ℕ) (followed : Followed contents start segment at end prefix) (is : label_type_at contents segment at ≡ Some (Label size)) (fits : (slice_index contents at ≡ size) × (0 < size) × (size < 64) × (at + 1 + size ≤ length contents)) where
  pub label_long : length (take size (drop (at + 1) contents)) ≡ size
  label_long = omega (arith, length-take size (drop (at + 1) contents), length-drop (at + 1) contents)

  pub label_octets : slice_range contents at (at + 1 + size) ≡ size ∷ take size (drop (at + 1) contents)
  label_octets =
      let count : at + 1 + size - at ≡ suc size = omega arith in
      let label_type : drop at contents ≡ size ∷ drop (at + 1) contents = rw fits.0 at (next_octet contents at (omega arith)) in
      rw (count, label_type) refl

  grown : labels_wire (followed.labels ++ take size (drop (at + 1) contents) ∷ []) ≡ prefix ++ slice_range contents at (at + 1 + size)
  grown = rw (labels_wire-append followed.labels (take size (drop (at + 1) contents) ∷ []), label_octets, label_long, append-nil (take size (drop (at + 1) contents)), followed.prefix_is) refl

  label_reads : segment_within (256 + start) contents start start ≡ joined (followed.labels ++ take size (drop (at + 1) contents) ∷ []) end (segment_within (pred followed.steps) contents segment (at + 1 + size))
  label_reads = read_label_type_is contents start segment at end prefix (Some (Label size)) followed is ∙ joined_label followed.labels (take size (drop (at + 1) contents)) end _

  pub followed_label : length prefix + size ≤ 253 → Followed contents start segment (at + 1 + size) end (prefix ++ slice_range contents at (at + 1 + size))
  followed_label room =
      let long : length (prefix ++ slice_range contents at (at + 1 + size)) ≡ length prefix + (1 + size) = length-append prefix (slice_range contents at (at + 1 + size)) ∙ ap (λ (l : List ℕ). length prefix + length l) label_octets ∙ omega (arith, label_long) in
      record {
        steps = pred followed.steps;
        labels = followed.labels ++ take size (drop (at + 1) contents) ∷ [];
        sizes = AllByRecursion-append followed.labels (take size (drop (at + 1) contents) ∷ []) followed.sizes ((omega (arith, label_long), omega (arith, label_long)), tt);
        prefix_is = sym grown;
        short = omega (arith, long);
        room = omega (arith, long, followed.room, followed.short, pred_less followed.steps (omega (arith, followed.room, followed.short)));
        reads = label_reads;
        ends = later end followed.ends;
      } where
        later : (end : Option ℕ) → EndFits contents start at end → EndFits contents start (at + 1 + size) end
        later None h = omega arith
        later (Some e) h = h

  pub followed_long : 253 < length prefix + size → name_at contents start ≡ None
  unfolding name_at
  followed_long over = ap short_name label_reads ∙ too_long (followed.labels ++ take size (drop (at + 1) contents) ∷ []) end _ (omega (arith, ap length grown, length-append prefix (slice_range contents at (at + 1 + size)), ap length label_octets, label_long)) where
    too_long : (labels : List (List ℕ)) (end : Option ℕ) (read : Found) → 255 ≤ length (labels_wire labels) → short_name (joined labels end read) ≡ None
    too_long labels end None long = refl
    too_long labels end (Some found) long =
        let over : ltb 255 (length (wire (labels ++ found.0))) ≡ true = lt-ltb _ _ (omega (arith, wire_long (labels ++ found.0), ap length (labels_wire-append labels found.0), length-append (labels_wire labels) (labels_wire found.0))) in
        rw over refl

pub followed_pointer : (contents : List ℕ) (start segment at target : ℕ) (end : Option ℕ) (prefix : List ℕ) → Followed contents start segment at end prefix → label_type_at contents segment at ≡ Some (Pointer target) → at + 2 ≤ length contents → target < segment → Followed contents start target target (Some (unwrap_or end (at + 2))) prefix
followed_pointer contents start segment at target end prefix followed is within before =
    record {
      steps = pred followed.steps;
      labels = followed.labels;
      sizes = followed.sizes;
      prefix_is = followed.prefix_is;
      short = followed.short;
      room = omega (arith, followed.room, followed.short, pred_less followed.steps (omega (arith, followed.room, followed.short)));
      reads = read_label_type_is contents start segment at end prefix (Some (Pointer target)) followed is ∙ joined_pointer followed.labels end (at + 2) _;
      ends = unchanged end followed.ends;
    } where
      unchanged : (end : Option ℕ) → EndFits contents start at end → EndFits contents start target (Some (unwrap_or end (at + 2)))
      unchanged None h = (omega arith, within)
      unchanged (Some e) h = h

pub followed_bad : (contents : List ℕ) (start segment at : ℕ) (end : Option ℕ) (prefix : List ℕ) → Followed contents start segment at end prefix → label_type_at contents segment at ≡ None → name_at contents start ≡ None
unfolding name_at
followed_bad contents start segment at end prefix followed is = ap short_name (read_label_type_is contents start segment at end prefix None followed is)

-- a name that is read
pub record Reads (contents : List ℕ) (start : ℕ) (octets : List ℕ) (end : ℕ) : Type 0 where
  pub reads : name_at contents start ≡ Some (name_labels octets, end)
  pub whole : all_of (plain_name octets) ≡ Some (name_labels octets)
  pub within : (start ≤ end) × (end ≤ length contents)

pub followed_root : (contents : List ℕ) (start segment at : ℕ) (end : Option ℕ) (prefix : List ℕ) → Followed contents start segment at end prefix → label_type_at contents segment at ≡ Some Root → at < length contents → Reads contents start (prefix ++ 0 ∷ []) (unwrap_or end (at + 1))
unfolding name_labels name_at
followed_root contents start segment at end prefix followed is within =
    let octets : prefix ++ 0 ∷ [] ≡ wire followed.labels = ap (λ (f : List ℕ). f ++ 0 ∷ []) followed.prefix_is in
    let long : length (wire followed.labels) ≤ 255 = omega (arith, wire_long followed.labels, ap length followed.prefix_is, followed.short) in
    let alone : plain_name (wire followed.labels) ≡ Some (followed.labels, []) = ap plain_name (sym (append-nil (wire followed.labels))) ∙ plain_wire followed.labels [] followed.sizes long in
    let of : unwrap_or (all_of (plain_name (wire followed.labels))) [] ≡ followed.labels = ap (λ (r : Option (List (List ℕ) × List ℕ)). unwrap_or (all_of r) []) alone in
    let fits : ltb 255 (length (wire followed.labels)) ≡ false = le-ltb _ _ long in
    let read : short_name (segment_within (256 + start) contents start start) ≡ Some (followed.labels, unwrap_or end (at + 1)) =
    ap short_name (read_label_type_is contents start segment at end prefix (Some Root) followed is ∙ ap (λ (l : List (List ℕ)). Some (l, unwrap_or end (at + 1))) (append-nil followed.labels)) ∙ rw fits refl in
    record { reads = rw (octets, of) read; whole = rw octets (ap all_of alone ∙ ap Some (sym of)); within = ended end followed.ends } where
      ended : (end : Option ℕ) → EndFits contents start at end → (start ≤ unwrap_or end (at + 1)) × (unwrap_or end (at + 1) ≤ length contents)
      ended None h = (omega arith, omega arith)
      ended (Some e) h = h

-- ---- what is answered by the function, by the rules

pub nothing_follows : (contents : List ℕ) (start : ℕ) → name_at contents start ≡ None → (labels : List (List ℕ)) (end : ℕ) → ¬ NameAt contents start labels end
nothing_follows contents start none labels end is =
    absurd (let both : None ≡ Some (labels, end) = sym none ∙ name_at_finds contents start labels end is in cc)

pub answer_follows : {E : Type 0} (contents : List ℕ) (start : ℕ) (result : Result (List (List ℕ) × ℕ) E) → Gives (λ x. (x.0, x.1)) result (name_at contents start) → IfOk result (λ x. NameAt contents start x.0 x.1)
answer_follows contents start (Ok x) is = name_at_is contents start x.0 x.1 is
answer_follows contents start (Err e) is = tt

pub nothing_answered : {E : Type 0} (contents : List ℕ) (start : ℕ) (result : Result (List (List ℕ) × ℕ) E) → Gives (λ x. (x.0, x.1)) result (name_at contents start) → OnErr result ((labels : List (List ℕ)) (end : ℕ) → ¬ NameAt contents start labels end)
nothing_answered contents start (Ok x) is = tt
nothing_answered contents start (Err e) is = nothing_follows contents start is
