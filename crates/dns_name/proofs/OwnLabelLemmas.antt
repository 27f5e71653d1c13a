-- A name's own labels: copying them, and what a reading of the whole name knows after them.
use Rattle.std.proofs.Common.{◌≡◌, ℕ, suc, ◌+◌, ◌-◌, ◌<◌, ◌≤◌, ◌⊎◌, inl, inr, List, [], ◌∷◌, ◌++◌, length, take, drop, Option, Some, None, sym, ap, ap₂, subst, ◌∙◌, arith, add-one, append-nil, append_assoc}
use Rattle.std.specs.Prelude.{slice_index, slice_range, unwrap_or}
use Rattle.std.proofs.lemmas.List.{length-append, length-drop, length-take, take-take, take_at}
use Rattle.std.proofs.Math.Seq.{drop-cons}
use Rattle.dns_wire.specs.Names.{labels_wire}
use Rattle.dns_wire.specs.Pointers.{NameAt, label_type_at, label_type_count, name_at}
use Rattle.dns_wire.specs.declared.name_cursor.LabelType.TheVariants.{Root, Label, Pointer}
use Rattle.dns_wire.proofs.Following.{label_type_is}
use Rattle.dns_wire.proofs.Walk.{labels_wire-append}
use Rattle.dns_name.specs.OwnLabels.{LabelsFrom, EndsAs, AreCopied, AreCutShort}
use Rattle.dns_name.specs.OwnLabels.LabelsFrom.{no_more, one_more}
use Rattle.dns_name.specs.declared.own_labels.OwnLabels.{OwnLabels}
use Rattle.dns_name.proofs.CountedSteps.{Counted, counted_label, counted_pointer, counted_root, counted_bound}
use Rattle.dns_name.proofs.Followed.{Followed, Reads, followed_bad, followed_label, followed_long, followed_pointer, followed_root}

-- ---- one label more

-- a label after its length
pub one_label : (contents : List ℕ) (at size : ℕ) → slice_index contents at ≡ size → at + 1 + size ≤ length contents → take (1 + size) (drop at contents) ≡ labels_wire (take size (drop (at + 1) contents) ∷ [])
one_label contents at size is room =
    let label = take size (drop (at + 1) contents) in
    let long : length label ≡ size = omega (arith, length-take size (drop (at + 1) contents), length-drop (at + 1) contents, room) in
    let within : at < length contents = omega (arith, room) in
    let first : drop at contents ≡ slice_index contents at ∷ drop (at + 1) contents = rw add-one (drop-cons contents at 0 within) in
    let count : 1 + size ≡ suc size = omega arith in
    (λ i. take (count i) (first i)) ∙ ap (λ n. n ∷ label) (is ∙ sym long) ∙ ap (λ (l : List ℕ). length label ∷ l) (sym (append-nil label))

labels_more : (contents : List ℕ) (start at stop size : ℕ) (labels : List (List ℕ)) → LabelsFrom contents start at labels stop → label_type_at contents start stop ≡ Some (Label size) → LabelsFrom contents start at (labels ++ take size (drop (stop + 1) contents) ∷ []) (stop + 1 + size)
labels_more contents start at stop size labels no_more is = one_more is no_more
labels_more contents start at stop size labels (one_more {size = first} {others = others} here later) is =
    one_more here (labels_more contents start (at + 1 + first) stop size others later is)

length-snoc : (labels : List (List ℕ)) (label : List ℕ) → length (labels ++ label ∷ []) ≡ length labels + 1
length-snoc labels label = length-append labels (label ∷ [])

-- ---- copying

-- the labels between two places are in the buffer, and as many steps are counted
pub record SoFar (contents : List ℕ) (start before : ℕ) (old new : List ℕ) (at size : ℕ) (counted steps : ℕ) : Type 0 where
  pub labels : List (List ℕ)
  pub there : LabelsFrom contents start start labels at
  pub size_is : size ≡ before + length (labels_wire labels)
  pub octets : take size new ≡ take before old ++ labels_wire labels
  pub steps_are : steps ≡ counted + length labels

pub so_far_none : (contents : List ℕ) (start before : ℕ) (old : List ℕ) (steps : ℕ) → SoFar contents start before old old start before steps steps
so_far_none contents start before old steps =
    record { labels = []; there = no_more; size_is = omega arith; octets = sym (append-nil (take before old)); steps_are = omega arith }

pub so_far_label : (contents : List ℕ) (start before : ℕ) (old new newer : List ℕ) (at size counted steps label : ℕ) → SoFar contents start before old new at size counted steps → label_type_at contents start at ≡ Some (Label label)
    → take (size + (1 + label)) newer ≡ take size new ++ take (1 + label) (drop at contents) → SoFar contents start before old newer (at + 1 + label) (size + (1 + label)) counted (steps + 1)
so_far_label contents start before old new newer at size counted steps label so is put =
    let h = label_type_is contents start at (Label label) is in
    let octets : List ℕ = take label (drop (at + 1) contents) in
    let wire_is : take (1 + label) (drop at contents) ≡ labels_wire (octets ∷ []) = one_label contents at label h.0 h.3 in
    let long : length (labels_wire (octets ∷ [])) ≡ 1 + label = ap length (sym wire_is) ∙ omega (arith, length-take (1 + label) (drop at contents), length-drop at contents, h.3) in
    let grown : labels_wire (so.labels ++ octets ∷ []) ≡ labels_wire so.labels ++ labels_wire (octets ∷ []) = labels_wire-append so.labels (octets ∷ []) in
    record {
      labels = so.labels ++ octets ∷ [];
      there = labels_more contents start start at label so.labels so.there is;
      size_is = omega (arith, so.size_is, ap length grown, length-append (labels_wire so.labels) (labels_wire (octets ∷ [])), long);
      octets = put ∙ ap₂ (λ (x y : List ℕ). x ++ y) so.octets wire_is ∙ append_assoc (take before old) (labels_wire so.labels) (labels_wire (octets ∷ [])) ∙ ap (λ (l : List ℕ). take before old ++ l) (sym grown);
      steps_are = omega (arith, so.steps_are, length-snoc so.labels octets);
    }

-- what was before stays
pub so_far_first : (contents : List ℕ) (start before : ℕ) (old new : List ℕ) (at size counted steps : ℕ) → SoFar contents start before old new at size counted steps → before ≤ length old → take before new ≡ take before old
so_far_first contents start before old new at size counted steps so room =
    sym (take-take before size new (omega (arith, so.size_is))) ∙ ap (take before) so.octets ∙ take_at (take before old) (labels_wire so.labels) before (omega (arith, length-take before old, room))

-- ---- after a name's own labels

label_wire : (contents : List ℕ) (at size : ℕ) → slice_index contents at ≡ size → at + 1 + size ≤ length contents → slice_range contents at (at + 1 + size) ≡ labels_wire (take size (drop (at + 1) contents) ∷ [])
label_wire contents at size is room =
    let count : at + 1 + size - at ≡ 1 + size = omega arith in
    rw count (one_label contents at size is room)

pub followed_labels : (contents : List ℕ) (start segment at stop : ℕ) (end : Option ℕ) (prefix : List ℕ) (labels : List (List ℕ)) → Followed contents start segment at end prefix → LabelsFrom contents segment at labels stop
    → length prefix + length (labels_wire labels) < 255 → Followed contents start segment stop end (prefix ++ labels_wire labels)
followed_labels contents start segment at stop end prefix labels followed no_more short = subst (λ (l : List ℕ). Followed contents start segment at end l) (sym (append-nil prefix)) followed
followed_labels contents start segment at stop end prefix labels followed (one_more {size = size} {others = others} is later) short =
    let h = label_type_is contents segment at (Label size) is in
    let label : List ℕ = take size (drop (at + 1) contents) in
    let long : length label ≡ size = omega (arith, length-take size (drop (at + 1) contents), length-drop (at + 1) contents, h.3) in
    let wire_is : slice_range contents at (at + 1 + size) ≡ labels_wire (label ∷ []) = label_wire contents at size h.0 h.3 in
    let whole : labels_wire (label ∷ others) ≡ labels_wire (label ∷ []) ++ labels_wire others = labels_wire-append (label ∷ []) others in
    let wire_long : length (labels_wire (label ∷ [])) ≡ 1 + size = ap (λ (l : List ℕ). length (length label ∷ l)) (append-nil label) ∙ omega (arith, long) in
    let here : Followed contents start segment (at + 1 + size) end (prefix ++ labels_wire (label ∷ [])) =
    subst (λ (l : List ℕ). Followed contents start segment (at + 1 + size) end (prefix ++ l)) wire_is
    (followed_label contents start segment at size end prefix followed is h (omega (arith, short, ap length whole, length-append (labels_wire (label ∷ [])) (labels_wire others), wire_long))) in
    let room : length (prefix ++ labels_wire (label ∷ [])) + length (labels_wire others) < 255 =
    omega (arith, short, length-append prefix (labels_wire (label ∷ [])), ap length whole, length-append (labels_wire (label ∷ [])) (labels_wire others)) in
    subst (λ (l : List ℕ). Followed contents start segment stop end l) (append_assoc prefix (labels_wire (label ∷ [])) (labels_wire others) ∙ ap (λ (l : List ℕ). prefix ++ l) (sym whole))
    (followed_labels contents start segment (at + 1 + size) stop end (prefix ++ labels_wire (label ∷ [])) others here later room)

pub counted_labels : (contents : List ℕ) (start segment at stop old new size : ℕ) (labels : List (List ℕ)) → Counted contents start segment at old new size → LabelsFrom contents segment at labels stop → Counted contents start segment stop old (new + length labels) (size + length (labels_wire labels))
counted_labels contents start segment at stop old new size labels counted no_more =
    let steps : new ≡ new + 0 = omega arith in
    let octets : size ≡ size + 0 = omega arith in
    subst (λ n. Counted contents start segment at old n (size + 0)) steps (subst (λ n. Counted contents start segment at old new n) octets counted)
counted_labels contents start segment at stop old new size labels counted (one_more {size = label} {others = others} is later) =
    let h = label_type_is contents segment at (Label label) is in
    let octets : List ℕ = take label (drop (at + 1) contents) in
    let long : length octets ≡ label = omega (arith, length-take label (drop (at + 1) contents), length-drop (at + 1) contents, h.3) in
    let steps : new + 1 + length others ≡ new + length (octets ∷ others) = omega arith in
    let sizes : size + (1 + label) + length (labels_wire others) ≡ size + length (labels_wire (octets ∷ others)) = omega (arith, long, length-append octets (labels_wire others)) in
    subst (λ n. Counted contents start segment stop old n (size + length (labels_wire (octets ∷ others)))) steps
    (subst (λ n. Counted contents start segment stop old (new + 1 + length others) n) sizes
    (counted_labels contents start segment (at + 1 + label) stop old (new + 1) (size + (1 + label)) others (counted_label contents start segment at old new size label counted h) later))

-- where there is no label type, or no room for a label, there is no name
pub followed_no_room : (contents : List ℕ) (start segment : ℕ) (end : Option ℕ) (prefix : List ℕ) (labels : List (List ℕ)) → Followed contents start segment segment end prefix → AreCutShort contents segment (length prefix) labels → name_at contents start ≡ None
followed_no_room contents start segment end prefix labels followed cut = by cut.ends where
  here : Followed contents start segment cut.stop end (prefix ++ labels_wire labels)
  here = followed_labels contents start segment segment cut.stop end prefix labels followed cut.there cut.short

  by : (label_type_at contents segment cut.stop ≡ None) ⊎ ((size : ℕ) × (label_type_at contents segment cut.stop ≡ Some (Label size)) × (255 ≤ length prefix + length (labels_wire labels) + 1 + size)) → name_at contents start ≡ None
  by (inl none) = followed_bad contents start segment cut.stop end (prefix ++ labels_wire labels) here none
  by (inr (size, is, over)) =
      followed_long contents start segment cut.stop size end (prefix ++ labels_wire labels) here is (label_type_is contents segment cut.stop (Label size) is)
      (omega (arith, over, length-append prefix (labels_wire labels)))

pub no_room_bound : (contents : List ℕ) (start segment before old steps : ℕ) (labels : List (List ℕ)) → Counted contents start segment segment old steps before → AreCutShort contents segment before labels → steps + (length labels + 1) ≤ old + (129 + start)
no_room_bound contents start segment before old steps labels counted cut =
    omega (arith, counted_bound contents start segment cut.stop old (steps + length labels) (before + length (labels_wire labels)) (counted_labels contents start segment segment cut.stop old steps before labels counted cut.there) cut.short)

module _ (contents : List ℕ) (start segment before : ℕ) (end : Option ℕ) (old new : List ℕ) (own : OwnLabels) (labels : List (List ℕ)) (followed : Followed contents start segment segment end (take before old)) (room : before < length old) (is : AreCopied contents segment before old new own labels) where
  here : Followed contents start segment is.stop end (take own.size new)
  here =
      subst (λ (l : List ℕ). Followed contents start segment is.stop end l) (sym is.octets)
      (followed_labels contents start segment segment is.stop end (take before old) labels followed is.there (omega (arith, length-take before old, room, is.size, is.short)))

  root_there : own.target ≡ None → (label_type_at contents segment is.stop ≡ Some Root) × (own.end ≡ is.stop + 1)
  root_there none = subst (EndsAs contents segment is.stop own.end) none is.ends

  pointer_there : (target : ℕ) → own.target ≡ Some target → (label_type_at contents segment is.stop ≡ Some (Pointer target)) × (own.end ≡ is.stop + 2)
  pointer_there target some = subst (EndsAs contents segment is.stop own.end) some is.ends

  pub copied_root : own.target ≡ None → Reads contents start (take own.size new ++ 0 ∷ []) (unwrap_or end own.end)
  copied_root none =
      let root = root_there none in
      subst (λ n. Reads contents start (take own.size new ++ 0 ∷ []) (unwrap_or end n)) (sym root.1)
      (followed_root contents start segment is.stop end (take own.size new) here root.0 (label_type_is contents segment is.stop Root root.0).0)

  pub copied_before : (target : ℕ) → own.target ≡ Some target → target < segment
  copied_before target some = (label_type_is contents segment is.stop (Pointer target) (pointer_there target some).0).3

  pub copied_pointer : (target : ℕ) → own.target ≡ Some target → Followed contents start target target (Some (unwrap_or end own.end)) (take own.size new)
  copied_pointer target some =
      let pointer = pointer_there target some in
      let h = label_type_is contents segment is.stop (Pointer target) pointer.0 in
      subst (λ n. Followed contents start target target (Some (unwrap_or end n)) (take own.size new)) (sym pointer.1)
      (followed_pointer contents start segment is.stop target end (take own.size new) here pointer.0 h.1 h.3)

module _ (contents : List ℕ) (start segment before first steps : ℕ) (old new : List ℕ) (own : OwnLabels) (labels : List (List ℕ)) (counted : Counted contents start segment segment first steps before) (is : AreCopied contents segment before old new own labels) where
  so_counted : Counted contents start segment is.stop first (steps + length labels) own.size
  so_counted =
      subst (Counted contents start segment is.stop first (steps + length labels)) (sym is.size) (counted_labels contents start segment segment is.stop first steps before labels counted is.there)

  pub copied_bound : steps + (length labels + 1) ≤ first + (129 + start)
  copied_bound = omega (arith, counted_bound contents start segment is.stop first (steps + length labels) own.size so_counted is.short)

  pub copied_counts : own.target ≡ None → (names : List (List ℕ)) (end : ℕ) (found : NameAt contents start names end) → steps + (length labels + 1) ≡ first + label_type_count found.reads
  copied_counts none names end found =
      let root = subst (EndsAs contents segment is.stop own.end) none is.ends in
      omega (arith, counted_root contents start segment is.stop first (steps + length labels) own.size so_counted root.0 names end found)

  pub copied_counted : (target : ℕ) → own.target ≡ Some target → Counted contents start target target first (steps + (length labels + 1)) own.size
  copied_counted target some =
      let pointer = subst (EndsAs contents segment is.stop own.end) some is.ends in
      let next : steps + length labels + 1 ≡ steps + (length labels + 1) = omega arith in
      subst (λ n. Counted contents start target target first n own.size) next
      (counted_pointer contents start segment is.stop first (steps + length labels) own.size target so_counted pointer.0 (label_type_is contents segment is.stop (Pointer target) pointer.0).3)
