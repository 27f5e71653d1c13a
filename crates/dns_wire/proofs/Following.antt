-- The function that reads a name with pointers reads what the relation has.
use Rattle.std.proofs.Common.{◌≡◌, ℕ, zero, suc, ◌+◌, ◌-◌, ◌*◌, ◌<◌, ◌≤◌, inl, inr, true, false, ltb, leb, List, [], ◌∷◌, ◌++◌, length, take, drop, Option, Some, None, refl, sym, ap, subst, ◌∙◌, arith}
use Rattle.std.specs.Prelude.{unwrap_or, slice_index, ◌==◌, ◌||◌}
use Rattle.std.specs.List.{AllByRecursion}
use Rattle.std.proofs.lemmas.Bool.Decides.{nat_tests}
use Rattle.std.proofs.lemmas.Bool.{lt-ltb, le-ltb, ltb-false}
use Rattle.std.proofs.lemmas.List.{length-append, length-take, length-drop, take-append-le, drop-append-le}
use Rattle.std.proofs.lemmas.Option.{some_pair_parts}
use Rattle.std.proofs.Math.ListN.{get_or-append}
use Rattle.dns_wire.specs.declared.name_cursor.LabelType.{LabelType}
use Rattle.dns_wire.specs.declared.name_cursor.LabelType.TheVariants.{Root, Label, Pointer}
use Rattle.dns_wire.specs.Names.{labels_wire, wire, IsLabel, IsName}
use Rattle.dns_wire.specs.Pointers.{offset_at, Segment, NameAt, label_type_count, label_type_at, joined, after_label_type, segment_within, short_name, name_at}
use Rattle.dns_wire.specs.Pointers.Segment.{at_root, at_label, at_pointer}
use Rattle.dns_wire.proofs.Spelled.{chosen}
use Rattle.dns_wire.proofs.Walk.{labels_wire_long, wire_long}

-- ---- what each case of the relation has at its place, the function finds there

label_type_root : (contents : List ℕ) (start at : ℕ) → at < length contents → slice_index contents at ≡ 0 → label_type_at contents start at ≡ Some Root
unfolding label_type_at
label_type_root contents start at within is =
    let there : leb (length contents) at ≡ false = grind (arith, nat_tests) in
    let ended : (slice_index contents at == 0) ≡ true = grind (arith, nat_tests) in
    rw (there, ended) refl

pub label_type_label : (contents : List ℕ) (start at : ℕ) → 0 < slice_index contents at → slice_index contents at < 64 → at + 1 + slice_index contents at ≤ length contents → label_type_at contents start at ≡ Some (Label (slice_index contents at))
unfolding label_type_at
label_type_label contents start at some small room =
    let there : leb (length contents) at ≡ false = grind (arith, nat_tests) in
    let more : (slice_index contents at == 0) ≡ false = grind (arith, nat_tests) in
    let short : ltb (slice_index contents at) 64 ≡ true = lt-ltb _ _ small in
    let fits : ltb (length contents) (at + 1 + slice_index contents at) ≡ false = le-ltb _ _ room in
    rw (there, more, short, fits) refl

pub label_type_pointer : (contents : List ℕ) (start at target : ℕ) → 192 ≤ slice_index contents at → at + 2 ≤ length contents → offset_at contents at ≡ target + 12 → target < start → label_type_at contents start at ≡ Some (Pointer target)
unfolding label_type_at
label_type_pointer contents start at target high room is before =
    let there : leb (length contents) at ≡ false = grind (arith, nat_tests) in
    let more : (slice_index contents at == 0) ≡ false = grind (arith, nat_tests) in
    let long : ltb (slice_index contents at) 64 ≡ false = le-ltb _ _ (omega arith) in
    let bad : ltb (slice_index contents at) 192 ≡ false = le-ltb _ _ high in
    let fits : ltb (length contents) (at + 2) ≡ false = le-ltb _ _ room in
    let past : ltb (offset_at contents at) 12 ≡ false = le-ltb _ _ (omega arith) in
    let place : offset_at contents at - 12 ≡ target = omega arith in
    let leads : leb start target ≡ false = grind (arith, nat_tests) in
    rw (there, more, long, bad, fits, past, place, leads) refl

-- the function finds what the relation has
pub within_finds : (contents : List ℕ) {start at end : ℕ} {labels : List (List ℕ)} → Segment contents start at labels end → (steps : ℕ) → length labels + start < steps → segment_within steps contents start at ≡ Some (labels, end)
unfolding segment_within
within_finds contents (at_root within zero_is labels_is end_is) zero enough = absurd (omega arith)
within_finds contents {start} {at} (at_root within zero_is labels_is end_is) (suc steps) enough =
    rw (label_type_root contents start at within zero_is, labels_is, end_is) refl
within_finds contents (at_label some small room labels_is later) zero enough = absurd (omega arith)
within_finds contents {start} {at} (at_label some small room labels_is later) (suc steps) enough =
    rw (label_type_label contents start at some small room, within_finds contents later steps (omega (arith, ap length labels_is)), labels_is) refl
within_finds contents (at_pointer high room is before later end_is) zero enough = absurd (omega arith)
within_finds contents {start} {at} (at_pointer high room is before later end_is) (suc steps) enough =
    rw (label_type_pointer contents start at _ high room is before, within_finds contents later steps (omega arith), end_is) refl

-- what a label type says of the octets
abbrev pub LabelTypeIs : List ℕ → ℕ → ℕ → LabelType → Type 0
LabelTypeIs contents start at Root = (at < length contents) × (slice_index contents at ≡ 0)
LabelTypeIs contents start at (Label size) = (slice_index contents at ≡ size) × (0 < size) × (size < 64) × (at + 1 + size ≤ length contents)
LabelTypeIs contents start at (Pointer target) = (192 ≤ slice_index contents at) × (at + 2 ≤ length contents) × (offset_at contents at ≡ target + 12) × (target < start)

same_some : {A : Type 0} (x y : A) (P : A → Type 0) → Some x ≡ Some y → P x → P y
same_some x y P e p = let h : x ≡ y = cc in subst P h p

pub label_type_is : (contents : List ℕ) (start at : ℕ) (label_type : LabelType) → label_type_at contents start at ≡ Some label_type → LabelTypeIs contents start at label_type
unfolding label_type_at
label_type_is contents start at label_type e =
    elim (chosen (leb (length contents) at) _ _ _ e) [
      | inl past ↦ absurd (let h = past.1 in cc)
      | inr there ↦
          elim (chosen (slice_index contents at == 0) _ _ _ there.1) [
            | inl ended ↦ same_some Root label_type (LabelTypeIs contents start at) ended.1 (grind (arith, nat_tests, there.0), grind (arith, nat_tests, ended.0))
            | inr more ↦
                elim (chosen (ltb (slice_index contents at) 64) _ _ _ more.1) [
                  | inl short ↦
                      elim (chosen (ltb (length contents) (at + 1 + slice_index contents at)) _ _ _ short.1) [
                        | inl over ↦ absurd (let h = over.1 in cc)
                        | inr fits ↦ same_some (Label (slice_index contents at)) label_type (LabelTypeIs contents start at) fits.1
                            (refl, grind (arith, nat_tests, more.0), grind (arith, nat_tests, short.0), grind (arith, nat_tests, fits.0))
                      ]
                  | inr long ↦
                      elim (chosen (ltb (slice_index contents at) 192 || ltb (length contents) (at + 2)) _ _ _ long.1) [
                        | inl over ↦ absurd (let h = over.1 in cc)
                        | inr fits ↦
                            elim (chosen (ltb (offset_at contents at) 12 || leb start (offset_at contents at - 12)) _ _ _ fits.1) [
                              | inl bad ↦ absurd (let h = bad.1 in cc)
                              | inr good ↦ same_some (Pointer (offset_at contents at - 12)) label_type (LabelTypeIs contents start at) good.1
                                  (grind (arith, nat_tests, fits.0), grind (arith, nat_tests, fits.0), grind (arith, nat_tests, good.0), grind (arith, nat_tests, good.0))
                            ]
                      ]
                ]
          ]
    ]

joined_is : (label : List (List ℕ)) (end : Option ℕ) (read : Option (List (List ℕ) × ℕ)) (labels : List (List ℕ)) (at : ℕ) → joined label end read ≡ Some (labels, at) → (others : List (List ℕ)) × (later : ℕ) × (read ≡ Some (others, later)) × (labels ≡ label ++ others) × (at ≡ unwrap_or end later)
joined_is label end None labels at e = absurd cc
joined_is label end (Some (others, later)) labels at e =
    let same = some_pair_parts (label ++ others) labels (unwrap_or end later) at e in
    (others, later, refl, sym same.0, sym same.1)

-- what one label type says, if the relation has what is found after it
by_label_type : (steps : ℕ) (contents : List ℕ) (start at : ℕ) (labels : List (List ℕ)) (end : ℕ) → ((s p : ℕ) (l : List (List ℕ)) (q : ℕ) → segment_within steps contents s p ≡ Some (l, q) → Segment contents s p l q) → (label_type : Option LabelType) → label_type_at contents start at ≡ label_type → after_label_type (segment_within steps contents) contents start at label_type ≡ Some (labels, end) → Segment contents start at labels end
by_label_type steps contents start at labels end again None is e = absurd cc
by_label_type steps contents start at labels end again (Some Root) is e =
    let h = label_type_is contents start at Root is in
    let same = some_pair_parts [] labels (at + 1) end e in
    at_root h.0 h.1 (sym same.0) (sym same.1)
by_label_type steps contents start at labels end again (Some (Label size)) is e =
    let h = label_type_is contents start at (Label size) is in
    let j = joined_is (take size (drop (at + 1) contents) ∷ []) None (segment_within steps contents start (at + 1 + size)) labels end e in
    let later : Segment contents start (at + 1 + size) j.0 end = subst (λ (q : ℕ). Segment contents start (at + 1 + size) j.0 q) (sym j.4) (again start (at + 1 + size) j.0 j.1 j.2) in
    at_label {others = j.0} (rw h.0 h.1) (rw h.0 h.2) (rw h.0 h.3) (rw h.0 j.3) (rw h.0 later)
by_label_type steps contents start at labels end again (Some (Pointer target)) is e =
    let h = label_type_is contents start at (Pointer target) is in
    let j = joined_is [] (Some (at + 2)) (segment_within steps contents target target) labels end e in
    let later : Segment contents target target labels j.1 = subst (λ (l : List (List ℕ)). Segment contents target target l j.1) (sym j.3) (again target target j.0 j.1 j.2) in
    at_pointer h.0 h.1 h.2 h.3 later j.4

-- the relation has what the function finds
pub within_is : (steps : ℕ) (contents : List ℕ) (start at : ℕ) (labels : List (List ℕ)) (end : ℕ) → segment_within steps contents start at ≡ Some (labels, end) → Segment contents start at labels end
unfolding segment_within
within_is zero contents start at labels end e = absurd cc
within_is (suc steps) contents start at labels end e = by_label_type steps contents start at labels end (λ s p l q h. within_is steps contents s p l q h) (label_type_at contents start at) refl e

short_name_is : (read : Option (List (List ℕ) × ℕ)) (labels : List (List ℕ)) (end : ℕ) → short_name read ≡ Some (labels, end) → (read ≡ Some (labels, end)) × (length (wire labels) ≤ 255)
short_name_is None labels end e = absurd cc
short_name_is (Some (found, at)) labels end e =
    elim (chosen (ltb 255 (length (wire found))) _ _ _ e) [
      | inl over ↦ absurd (let h = over.1 in cc)
      | inr fits ↦
          let same = some_pair_parts found labels at end fits.1 in
          (fits.1, rw (← same.0) (ltb-false _ _ fits.0))
    ]

pub name_at_is : (contents : List ℕ) (at : ℕ) (labels : List (List ℕ)) (end : ℕ) → name_at contents at ≡ Some (labels, end) → NameAt contents at labels end
unfolding name_at
name_at_is contents at labels end e =
    let s = short_name_is (segment_within (256 + at) contents at at) labels end e in
    record { reads = within_is (256 + at) contents at at labels end s.0; short = s.1 }

pub name_at_finds : (contents : List ℕ) (at : ℕ) (labels : List (List ℕ)) (end : ℕ) → NameAt contents at labels end → name_at contents at ≡ Some (labels, end)
unfolding name_at
name_at_finds contents at labels end is =
    let fits : ltb 255 (length (wire labels)) ≡ false = le-ltb _ _ is.short in
    ap short_name (within_finds contents is.reads (256 + at) (omega (arith, labels_wire_long labels, wire_long labels, is.short))) ∙ rw fits refl

-- ---- what is read is one name

pub name_at_one : (contents : List ℕ) (at : ℕ) (labels others : List (List ℕ)) (end other : ℕ) → NameAt contents at labels end → NameAt contents at others other → (labels ≡ others) × (end ≡ other)
name_at_one contents at labels others end other is also =
    some_pair_parts labels others end other (sym (name_at_finds contents at labels end is) ∙ name_at_finds contents at others other also)

-- labels that are read are labels
pub segment_sizes : (contents : List ℕ) {start at end : ℕ} {labels : List (List ℕ)} → Segment contents start at labels end → AllByRecursion IsLabel labels
segment_sizes contents (at_root within zero_is labels_is end_is) = rw labels_is tt
segment_sizes contents {start} {at} (at_label some small room labels_is later) =
    let long : length (take (slice_index contents at) (drop (at + 1) contents)) ≡ slice_index contents at = omega (arith, length-take (slice_index contents at) (drop (at + 1) contents), length-drop (at + 1) contents) in
    rw labels_is ((omega (arith, long), omega (arith, long)), segment_sizes contents later)
segment_sizes contents (at_pointer high room is before later end_is) = segment_sizes contents later

pub name_at_name : (contents : List ℕ) (at : ℕ) (labels : List (List ℕ)) (end : ℕ) → NameAt contents at labels end → IsName labels
name_at_name contents at labels end is = record { sizes = segment_sizes contents is.reads; size = is.short }

-- something is at the place, and it ends within the contents
pub segment_ends : (contents : List ℕ) {start at end : ℕ} {labels : List (List ℕ)} → Segment contents start at labels end → (at < end) × (end ≤ length contents)
segment_ends contents (at_root within zero_is labels_is end_is) = (omega arith, omega arith)
segment_ends contents (at_label some small room labels_is later) = let t = segment_ends contents later in (omega (arith, t.0), t.1)
segment_ends contents (at_pointer high room is before later end_is) = (omega arith, omega arith)

-- ---- reading ends

pub label_types_counted : (contents : List ℕ) {start at end : ℕ} {labels : List (List ℕ)} (reads : Segment contents start at labels end) → label_type_count reads ≤ length labels + start + 1
label_types_counted contents (at_root within zero_is labels_is end_is) = omega arith
label_types_counted contents (at_label some small room labels_is later) = omega (arith, label_types_counted contents later, ap length labels_is)
label_types_counted contents (at_pointer high room is before later end_is) = omega (arith, label_types_counted contents later)

-- a label is two octets or more
labels_twice : (labels : List (List ℕ)) → AllByRecursion IsLabel labels → 2 * length labels ≤ length (labels_wire labels)
labels_twice [] all = omega arith
labels_twice (label ∷ labels) all = omega (arith, labels_twice labels all.1, all.0.0, length-append label (labels_wire labels))

pub name_label_types_counted : (contents : List ℕ) (at : ℕ) (labels : List (List ℕ)) (end : ℕ) (found : NameAt contents at labels end) → label_type_count found.reads ≤ 128 + at
name_label_types_counted contents at labels end found =
    omega (arith, label_types_counted contents found.reads, labels_twice labels (segment_sizes contents found.reads), wire_long labels, found.short)

-- ---- octets after the contents change nothing

pub octet_unchanged : (contents more : List ℕ) (at : ℕ) → at < length contents → slice_index (contents ++ more) at ≡ slice_index contents at
octet_unchanged contents more at within = get_or-append contents more 0 at within

pub label_unchanged : (contents more : List ℕ) (at size : ℕ) → at + size ≤ length contents → take size (drop at (contents ++ more)) ≡ take size (drop at contents)
label_unchanged contents more at size room =
    ap (take size) (drop-append-le at contents more (omega arith)) ∙ take-append-le size (drop at contents) more (omega (arith, length-drop at contents))

pub segment_more : (contents more : List ℕ) {start at end : ℕ} {labels : List (List ℕ)} → Segment contents start at labels end → Segment (contents ++ more) start at labels end
segment_more contents more {at = at} (at_root within is labels_is end_is) = at_root (omega (arith, length-append contents more)) (octet_unchanged contents more at within ∙ is) labels_is end_is
segment_more contents more {at = at} (at_label {others = others} some small room labels_is later) =
    let same : slice_index (contents ++ more) at ≡ slice_index contents at = octet_unchanged contents more at (omega arith) in
    at_label {others = others} (rw same some) (rw same small) (rw same (omega (arith, length-append contents more)))
    (rw same (labels_is ∙ ap (λ (l : List ℕ). l ∷ others) (sym (label_unchanged contents more (at + 1) (slice_index contents at) room))))
    (rw same (segment_more contents more later))
segment_more contents more {at = at} (at_pointer {target = target} high room is before later end_is) =
    let same : slice_index (contents ++ more) at ≡ slice_index contents at = octet_unchanged contents more at (omega arith) in
    let next : slice_index (contents ++ more) (at + 1) ≡ slice_index contents (at + 1) = octet_unchanged contents more (at + 1) (omega arith) in
    at_pointer {target = target} (rw same high) (omega (arith, length-append contents more)) (rw (same, next) is) before (segment_more contents more later) end_is

pub name_more : (contents more : List ℕ) (at : ℕ) (labels : List (List ℕ)) (end : ℕ) → NameAt contents at labels end → NameAt (contents ++ more) at labels end
name_more contents more at labels end is = record { reads = segment_more contents more is.reads; short = is.short }

pub name_at_more : (contents more : List ℕ) (at : ℕ) (labels : List (List ℕ)) (end : ℕ) → name_at contents at ≡ Some (labels, end) → name_at (contents ++ more) at ≡ Some (labels, end)
name_at_more contents more at labels end e = name_at_finds (contents ++ more) at labels end (name_more contents more at labels end (name_at_is contents at labels end e))
