-- Records whose owner was read before.
use Rattle.std.proofs.Common.{◌≡◌, ℕ, ◌+◌, ◌-◌, ◌<◌, ◌≤◌, List, ◌∷◌, length, take, drop, Some, None, refl, sym, ap, subst, ◌∙◌, arith}
use Rattle.std.specs.Prelude.{slice_index}
use Rattle.std.proofs.lemmas.List.{get_or-drop, get_or-take, take-take, drop-drop}
use Rattle.dns_wire.specs.Octets.{Labels}
use Rattle.dns_wire.specs.Pointers.{Segment, name_at}
use Rattle.dns_wire.specs.Pointers.Segment.{at_root, at_label, at_pointer}
use Rattle.dns_wire.specs.Reading.{plain_at}
use Rattle.dns_wire.proofs.Following.{name_at_is, name_at_finds, segment_ends}
use Rattle.dns_record.specs.Records.{Parts, parts_at, record_in}
use Rattle.dns_record.specs.FurtherFormats.{DataReading}
use Rattle.dns_message.specs.UnparsedRecords.{data_start, with_data}
use Rattle.dns_message.proofs.OwnerKeyLemmas.{drop_taken}

-- ---- the rest of a record

pub no_owner_no_record : (reads : DataReading) (contents : List ℕ) (start : ℕ) → name_at contents start ≡ None → record_in name_at reads contents start ≡ None
unfolding record_in
no_owner_no_record reads contents start none = rw none refl

module _ (reads : DataReading) (contents : List ℕ) (start at : ℕ) (labels : Labels) (owner : name_at contents start ≡ Some (labels, at)) where
  pub parts_there : (p : Parts) (end : ℕ) → plain_at parts_at contents at ≡ Some (p, end)
      → record_in name_at reads contents start ≡ with_data labels p end (reads p.rtype (take end contents) (data_start end p.content))
  unfolding record_in
  parts_there p end is = rw (owner, is) refl

  pub no_parts_no_record : plain_at parts_at contents at ≡ None → record_in name_at reads contents start ≡ None
  unfolding record_in
  no_parts_no_record none = rw (owner, none) refl

-- ---- an owner that is at a later place too

-- the octets from two places on are the same, that many
abbrev Same : List ℕ → ℕ → ℕ → ℕ → Type 0
Same contents at d n = take n (drop (at + d) contents) ≡ take n (drop at contents)

same_octet : (contents : List ℕ) (at d n : ℕ) → 0 < n → Same contents at d n → slice_index contents (at + d) ≡ slice_index contents at
same_octet contents at d n some same =
    let there : at + d ≡ at + d + 0 = omega arith in
    let here : at + 0 ≡ at = omega arith in
    ap (slice_index contents) there
    ∙ sym (get_or-take n (drop (at + d) contents) 0 0 some ∙ get_or-drop (at + d) contents 0 0)
    ∙ ap (λ (l : List ℕ). slice_index l 0) same
    ∙ get_or-take n (drop at contents) 0 0 some ∙ get_or-drop at contents 0 0
    ∙ ap (slice_index contents) here

same_later : (contents : List ℕ) (at d n k : ℕ) → Same contents at d (k + n) → Same contents (at + k) d n
same_later contents at d n k same =
    let moved : at + k + d ≡ at + d + k = omega arith in
    ap (λ (m : ℕ). take n (drop m contents)) moved
    ∙ ap (take n) (sym (drop-drop k (at + d) contents))
    ∙ sym (drop_taken k (k + n) n (drop (at + d) contents) refl) ∙ ap (drop k) same ∙ drop_taken k (k + n) n (drop at contents) refl
    ∙ ap (take n) (drop-drop k at contents)

same_fewer : (contents : List ℕ) (at d n m : ℕ) → m ≤ n → Same contents at d n → Same contents at d m
same_fewer contents at d n m few same = sym (take-take m n (drop (at + d) contents) few) ∙ ap (take m) same ∙ take-take m n (drop at contents) few

-- the same octets later are read as the same labels, since pointers lead before them too
segment_later : (contents : List ℕ) (d : ℕ) {start at end : ℕ} {labels : List (List ℕ)} → Segment contents start at labels end → end + d ≤ length contents → Same contents at d (end - at)
    → Segment contents (start + d) (at + d) labels (end + d)
segment_later contents d {at = at} {end = end} (at_root within is labels_is end_is) room same =
    at_root (omega (arith, room, end_is)) (same_octet contents at d (end - at) (omega (arith, end_is)) same ∙ is) labels_is (omega (arith, end_is))
segment_later contents d {start} {at} {end} (at_label {others = others} some small fits labels_is later) room same =
    let size = slice_index contents at in
    let ends = segment_ends contents later in
    let first : slice_index contents (at + d) ≡ size = same_octet contents at d (end - at) (omega (arith, ends.0)) same in
    let split : end - at ≡ (1 + size) + (end - (at + 1 + size)) = omega (arith, ends.0) in
    let whole : Same contents at d ((1 + size) + (end - (at + 1 + size))) = rw split at same in
    let one : end - at ≡ 1 + (end - (at + 1)) = omega (arith, ends.0) in
    let body : Same contents (at + 1) d size = same_fewer contents (at + 1) d (end - (at + 1)) size (omega (arith, ends.0)) (same_later contents at d (end - (at + 1)) 1 (rw one at same)) in
    let rest : Same contents (at + (1 + size)) d (end - (at + 1 + size)) = same_later contents at d (end - (at + 1 + size)) (1 + size) whole in
    let place : at + (1 + size) ≡ at + 1 + size = omega arith in
    let next : at + 1 + size + d ≡ at + d + 1 + size = omega arith in
    let begin : at + 1 + d ≡ at + d + 1 = omega arith in
    let again : Segment contents (start + d) (at + 1 + size + d) others (end + d) = segment_later contents d later room (rw place at rest) in
    at_label {others = others} (rw first some) (rw first small) (omega (arith, first, room, ends.0))
    (labels_is ∙ ap (λ (l : List ℕ). l ∷ others) (sym body ∙ ap (λ (m : ℕ). take size (drop m contents)) begin) ∙ ap (λ (n : ℕ). take n (drop (at + d + 1) contents) ∷ others) (sym first))
    (subst (λ (n : ℕ). Segment contents (start + d) n others (end + d)) (next ∙ ap (λ (n : ℕ). at + d + 1 + n) (sym first)) again)
segment_later contents d {start} {at} {end} (at_pointer {target = target} high fits is before later end_is) room same =
    let two : end - at ≡ 1 + 1 = omega (arith, end_is) in
    let first : slice_index contents (at + d) ≡ slice_index contents at = same_octet contents at d (end - at) (omega (arith, end_is)) same in
    let begin : at + 1 + d ≡ at + d + 1 = omega arith in
    let second : slice_index contents (at + d + 1) ≡ slice_index contents (at + 1) =
    ap (slice_index contents) (sym begin) ∙ same_octet contents (at + 1) d 1 (omega arith) (same_later contents at d 1 1 (rw two at same)) in
    at_pointer {target = target} (rw first high) (omega (arith, room, end_is)) (rw (first, second) is) (omega (arith, before)) later (omega (arith, end_is))

pub name_later : (contents : List ℕ) (at later : ℕ) (labels : List (List ℕ)) (end : ℕ) → name_at contents at ≡ Some (labels, end) → at ≤ later → later + (end - at) ≤ length contents
    → take (end - at) (drop later contents) ≡ take (end - at) (drop at contents) → name_at contents later ≡ Some (labels, later + (end - at))
name_later contents at later labels end e after room same =
    let is = name_at_is contents at labels end e in
    let ends = segment_ends contents is.reads in
    let place : at + (later - at) ≡ later = omega (arith, after) in
    let stop : end + (later - at) ≡ later + (end - at) = omega (arith, after, ends.0) in
    let reads : Segment contents (at + (later - at)) (at + (later - at)) labels (end + (later - at)) =
    segment_later contents (later - at) is.reads (omega (arith, stop, room)) (rw (← place) at same) in
    name_at_finds contents later labels (later + (end - at)) (record { reads = rw (place, stop) at reads; short = is.short })
