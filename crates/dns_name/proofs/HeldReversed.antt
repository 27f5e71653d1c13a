-- Putting a name into a buffer from the root on.
use Rattle.std.proofs.Common.{◌≡◌, ℕ, ◌-◌, ◌<◌, ◌≤◌, List, [], ◌∷◌, ◌++◌, length, take, drop, Some, sym, ap, ◌∙◌, arith}
use Rattle.std.specs.Prelude.{reverse}
use Rattle.std.proofs.lemmas.List.{drop_at, drop_all, length-append, length-take, length-drop, append-nil}
use Rattle.dns_wire.specs.Names.{labels_wire, IsName}
use Rattle.dns_wire.specs.Reversed.{reversed_wire, reversed_name, reversed_name_labels}
use Rattle.dns_wire.proofs.Backward.{reversed_long, reversed_read, reversed_labels, reversed_wire_long}
use Rattle.dns_wire.proofs.Walk.{wire_long}

-- ---- the end of a buffer

-- what has been put before a place, and what was after it
pub put_before : (old new octets : List ℕ) (offset : ℕ) → length octets ≤ offset → offset ≤ length old → new ≡ take (offset - length octets) old ++ (octets ++ drop offset old) → drop (offset - length octets) new ≡ octets ++ drop offset old
put_before old new octets offset room within is =
    ap (drop (offset - length octets)) is ∙ drop_at (take (offset - length octets) old) (octets ++ drop offset old) (offset - length octets) (omega (arith, within, length-take (offset - length octets) old))

-- the octets at the end of a buffer are a name's, from the root on
pub record HoldsReversed (buffer : List ℕ) (offset : ℕ) (labels : List (List ℕ)) : Type 0 where
  pub early : offset < 255
  pub whole : reversed_name (drop offset buffer) ≡ Some (reversed_name_labels (drop offset buffer))
  pub labels_are : reversed_name_labels (drop offset buffer) ≡ labels

pub holds_reversed : (buffer : List ℕ) (offset : ℕ) (labels : List (List ℕ)) → IsName labels → length buffer ≡ 255 → drop offset buffer ≡ reversed_wire labels → HoldsReversed buffer offset labels
holds_reversed buffer offset labels is array end_is =
    let again : reversed_name_labels (drop offset buffer) ≡ labels = ap reversed_name_labels end_is ∙ reversed_labels labels is in
    record {
      early = omega (arith, array, ap length end_is, length-drop offset buffer, reversed_wire_long labels, wire_long labels);
      whole = ap reversed_name end_is ∙ reversed_read labels is ∙ ap Some (sym again);
      labels_are = again;
    }

-- ---- the labels of a name

pub holds_turned : (old with_labels new : List ℕ) (labels : List (List ℕ)) (offset : ℕ) → IsName labels → length old ≡ 255 → offset ≡ 255 - length (labels_wire (reverse labels))
    → with_labels ≡ take offset old ++ (labels_wire (reverse labels) ++ drop 255 old) → new ≡ take (offset - 1) with_labels ++ (0 ∷ [] ++ drop offset with_labels) → HoldsReversed new (offset - 1) labels
holds_turned old with_labels new labels offset is array offset_is labels_are root_is =
    let relative : List ℕ = labels_wire (reverse labels) in
    let few : length relative ≤ 254 = omega (arith, is.size, wire_long labels, reversed_long labels) in
    let at_end : drop offset with_labels ≡ relative =
    rw (← offset_is) at (put_before old with_labels relative 255 (omega (arith, few)) (omega (arith, array)) (rw offset_is at labels_are)) ∙ ap (λ (l : List ℕ). relative ++ l) (drop_all 255 old (omega (arith, array))) ∙ append-nil relative in
    let long : length with_labels ≡ 255 = ap length labels_are ∙ length-append (take offset old) (relative ++ drop 255 old) ∙ omega (arith, few, array, offset_is, length-take offset old, length-append relative (drop 255 old), length-drop 255 old) in
    let new_long : length new ≡ 255 = ap length root_is ∙ length-append (take (offset - 1) with_labels) (0 ∷ drop offset with_labels) ∙ omega (arith, few, long, offset_is, length-take (offset - 1) with_labels, length-drop offset with_labels) in
    holds_reversed new (offset - 1) labels is new_long
    (put_before with_labels new (0 ∷ []) offset (omega (arith, few, offset_is)) (omega (arith, long, offset_is)) root_is ∙ ap (λ (l : List ℕ). 0 ∷ l) at_end)
