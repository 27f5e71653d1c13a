-- A slot that is written over changes no name that was written after it, and none before it.
use Rattle.std.proofs.Common.{◌≡◌, ℕ, ◌+◌, ◌-◌, ◌<◌, ◌≤◌, ◌⊎◌, inl, inr, List, [], ◌∷◌, ◌++◌, length, get_or, take, drop, refl, sym, ap, ◌∙◌, append_assoc, arith}
use Rattle.std.specs.Prelude.{slice_index, Contains}
use Rattle.std.specs.List.{AllByRecursion}
use Rattle.std.proofs.lemmas.List.{drop-drop, drop_at, get_or-drop, length-append}
use Rattle.std.proofs.lemmas.List.Elements.{All-contains, All-from_recursion, Contains-append_cases}
use Rattle.dns_wire.specs.Compression.{Run, RunAt, FitsIn, ReadsAlike}
use Rattle.dns_wire.specs.Compression.Run.{run_root, run_label, run_pointer}
use Rattle.dns_wire.specs.Layout.{LayoutPart}
use Rattle.dns_wire.specs.Layout.LayoutPart.{NamePart, OctetsPart}
use Rattle.dns_message.specs.LayoutRead.{LayoutAt}
use Rattle.dns_wire.specs.Pointers.{offset_at, Segment}
use Rattle.dns_wire.specs.Pointers.Segment.{at_root, at_label, at_pointer}
use Rattle.dns_wire.specs.declared.sizes.TheConstants.{HEADER_SIZE, POINTER_TAG}
use Rattle.dns_wire.proofs.Following.{octet_unchanged, label_unchanged, segment_more}
use Rattle.dns_message.proofs.Laid.{Runs}
use Rattle.dns_wire.proofs.RunLemmas.{run_within, run_next}

-- ---- contents that agree from a place on

same_octet : (c d : List ℕ) (low at : ℕ) → low ≤ at → drop low c ≡ drop low d → slice_index c at ≡ slice_index d at
same_octet c d low at h same =
    let place : low + (at - low) ≡ at = omega arith in
    sym (ap (λ (n : ℕ). get_or c n 0) place) ∙ sym (get_or-drop low c (at - low) 0) ∙ ap (λ (l : List ℕ). get_or l (at - low) 0) same ∙ get_or-drop low d (at - low) 0 ∙ ap (λ (n : ℕ). get_or d n 0) place

past_slot : (prefix slot inner : List ℕ) (n : ℕ) → n ≡ length prefix + length slot → drop n (prefix ++ (slot ++ inner)) ≡ inner
past_slot prefix slot inner n e = ap (drop n) (sym (append_assoc prefix slot inner)) ∙ drop_at (prefix ++ slot) inner n (omega (arith, length-append prefix slot))

-- ---- runs

-- where a run's pointer leads
record Points (contents places : List ℕ) (at : ℕ) : Type 0 where
  room : at + 2 ≤ length contents
  target : ℕ
  is : offset_at contents at ≡ target + HEADER_SIZE
  recorded : Contains places target

run_points : (contents places : List ℕ) {first at : ℕ} → Run contents places first at → POINTER_TAG ≤ slice_index contents at → Points contents places at
run_points contents places (run_root within is) high = absurd (omega arith)
run_points contents places (run_label some small room later) high = absurd (omega arith)
run_points contents places (run_pointer target _ room is recorded before) high = record { room = room; target = target; is = is; recorded = recorded }

run_at : (contents places all : List ℕ) (place : ℕ) → AllByRecursion (RunAt contents all) places → Contains places place → RunAt contents all place
run_at contents places all place runs recorded = All-contains (RunAt contents all) places place (All-from_recursion (RunAt contents all) places runs) recorded

-- ---- a name that is read before the slot

module _ (prefix rest places : List ℕ) (fits : FitsIn places prefix) where
  segment_prefix : {start at end first : ℕ} {labels : List (List ℕ)} → Segment (prefix ++ rest) start at labels end → Run prefix places first at → Segment prefix start at labels end
  segment_prefix {at = at} (at_root within is labels_is end_is) run =
      let there : at < length prefix = run_within prefix places run in
      at_root there (sym (octet_unchanged prefix rest at there) ∙ is) labels_is end_is
  segment_prefix {at = at} {first = first} (at_label {others = others} some small room labels_is later) run =
      let same : slice_index (prefix ++ rest) at ≡ slice_index prefix at = octet_unchanged prefix rest at (run_within prefix places run) in
      let next = run_next prefix places run (rw same at some) (rw same at small) in
      at_label {others = others} (rw same at some) (rw same at small) next.room
      (labels_is ∙ ap (λ (n : ℕ). take n (drop (at + 1) (prefix ++ rest)) ∷ others) same ∙ ap (λ (l : List ℕ). l ∷ others) (label_unchanged prefix rest (at + 1) (slice_index prefix at) next.room))
      (rw (← same) (segment_prefix {first = first} later (rw same next.run)))
  segment_prefix {at = at} (at_pointer {target = target} high room is before later end_is) run =
      let same : slice_index (prefix ++ rest) at ≡ slice_index prefix at = octet_unchanged prefix rest at (run_within prefix places run) in
      let points = run_points prefix places run (rw same at high) in
      let next : slice_index (prefix ++ rest) (at + 1) ≡ slice_index prefix (at + 1) = octet_unchanged prefix rest (at + 1) (omega (arith, points.room)) in
      let here : offset_at prefix at ≡ target + HEADER_SIZE = rw (same, next) at is in
      let leads : points.target ≡ target = omega (arith, here, points.is) in
      at_pointer {target = target} (rw same at high) points.room here before (segment_prefix later (run_at prefix places places target fits.runs (rw leads at points.recorded)).run) end_is

-- ---- a name that is read after the slot

module _ (prefix slot filled inner places added : List ℕ) (same : length slot ≡ length filled) (before : FitsIn places prefix) (trailing : AllByRecursion (λ place. length prefix + length slot ≤ place) added) (fits : FitsIn (places ++ added) (prefix ++ (slot ++ inner))) where
  abbrev c : List ℕ
  c = prefix ++ (slot ++ inner)

  abbrev d : List ℕ
  d = prefix ++ (filled ++ inner)

  abbrev low : ℕ
  low = length prefix + length slot

  rest_same : drop low c ≡ drop low d
  rest_same = past_slot prefix slot inner low refl ∙ sym (past_slot prefix filled inner low (omega arith))

  long_same : length c ≡ length d
  long_same = omega (arith, length-append prefix (slot ++ inner), length-append prefix (filled ++ inner), length-append slot inner, length-append filled inner)

  octet_same : (at : ℕ) → low ≤ at → slice_index c at ≡ slice_index d at
  octet_same at h = same_octet c d low at h rest_same

  drop_same : (at : ℕ) → low ≤ at → drop at c ≡ drop at d
  drop_same at h =
      let place : low + (at - low) ≡ at = omega arith in
      sym (ap (λ (n : ℕ). drop n c) place) ∙ sym (drop-drop (at - low) low c) ∙ ap (drop (at - low)) rest_same ∙ drop-drop (at - low) low d ∙ ap (λ (n : ℕ). drop n d) place

  -- a recorded place before the slot, or after it
  cases : (target : ℕ) → Contains (places ++ added) target → RunAt prefix places target ⊎ ((low ≤ target) × RunAt c (places ++ added) target)
  cases target recorded = elim (Contains-append_cases places added target recorded) [
    | inl old ↦ inl (run_at prefix places places target before.runs old)
    | inr new ↦ inr (All-contains (λ place. low ≤ place) added target (All-from_recursion (λ place. low ≤ place) added trailing) new, run_at c (places ++ added) (places ++ added) target fits.runs recorded)
  ]

  segment_slot : {start at end first : ℕ} {labels : List (List ℕ)} → Segment c start at labels end → low ≤ at → Run c (places ++ added) first at → Segment d start at labels end
  segment_slot {at = at} (at_root within is labels_is end_is) h run = at_root (omega (arith, long_same)) (sym (octet_same at h) ∙ is) labels_is end_is
  segment_slot {at = at} (at_label {others = others} some small room labels_is later) h run =
      let e : slice_index d at ≡ slice_index c at = sym (octet_same at h) in
      at_label {others = others} (rw e some) (rw e small) (rw e (omega (arith, long_same))) (rw e (labels_is ∙ ap (λ (l : List ℕ). take (slice_index c at) l ∷ others) (drop_same (at + 1) (omega arith))))
      (rw e (segment_slot later (omega arith) (run_next c (places ++ added) run some small).run))
  segment_slot {at = at} (at_pointer {target = target} {later = later_end} {labels = labels} high room is back later end_is) h run =
      let e : slice_index d at ≡ slice_index c at = sym (octet_same at h) in
      let f : slice_index d (at + 1) ≡ slice_index c (at + 1) = sym (octet_same (at + 1) (omega arith)) in
      let points = run_points c (places ++ added) run high in
      let leads : points.target ≡ target = omega (arith, is, points.is) in
      let there : Segment d target target labels later_end = elim (cases target (rw leads at points.recorded)) [
        | inl old ↦ segment_more prefix (filled ++ inner) (segment_prefix prefix (slot ++ inner) places before later old.run)
        | inr new ↦ segment_slot later new.0 new.1.run
      ] in
      at_pointer {target = target} (rw e high) (omega (arith, long_same)) (rw (e, f) is) back there end_is

  -- so each name after the slot is read as before
  name_slot : (labels : List (List ℕ)) (at end first : ℕ) → low ≤ at → Run c (places ++ added) first at → ReadsAlike c labels at end → ReadsAlike d labels at end
  name_slot labels at end first h run r = record { there = r.there; name = record { reads = segment_slot r.name.reads h run; short = r.name.short }; alike = r.alike }

  -- and so are all parts
  pub layout_slot : (layout : List LayoutPart) (at end : ℕ) → low ≤ at → Runs c (places ++ added) at layout end → LayoutAt d at layout end
  layout_slot [] at end h r = r
  layout_slot (NamePart labels ∷ layout) at end h r = (r.0, name_slot labels at r.0 at h r.2 r.1, layout_slot layout r.0 end (omega (arith, r.3)) r.4)
  layout_slot (OctetsPart octets ∷ layout) at end h r = (omega (arith, r.0, long_same), ap (take (length octets)) (sym (drop_same at h)) ∙ r.1, layout_slot layout (at + length octets) end (omega arith) r.2)
