-- Putting labels into a buffer in reverse, each before those that are there.
use Rattle.std.proofs.Common.{◌≡◌, ℕ, suc, ◌+◌, ◌-◌, ◌<◌, ◌≤◌, List, [], ◌∷◌, ◌++◌, length, get_or, take, drop, Some, refl, sym, ap, ◌∙◌, append_assoc, arith, add-one}
use Rattle.std.specs.Prelude.{reverse, slice_range}
use Rattle.std.proofs.lemmas.List.{take_at, drop_at, take-take, drop_all, take-append-drop, take-append-le, drop-drop, length-append, length-take, length-drop, append-nil, reverse-append}
use Rattle.std.proofs.Math.Seq.{drop-cons}
use Rattle.dns_wire.specs.Building.{Occurs}
use Rattle.dns_wire.specs.Names.{labels_wire, wire, IsName, plain_name, name_labels}
use Rattle.dns_wire.specs.Reading.{all_of}
use Rattle.dns_wire.specs.Reversed.{relative_name, relative_labels}
use Rattle.dns_wire.proofs.Backward.{relative_is, no_labels, reversed_long}
use Rattle.dns_wire.proofs.Spelled.{labels_of_wire}
use Rattle.dns_wire.proofs.Walk.{labels_wire-append, wire_long}

-- the labels before place at are in the buffer, the first of them last
pub record Turned (octets old : List ℕ) (end at : ℕ) (new : List ℕ) : Type 0 where
  pub done : List (List ℕ)
  pub todo : List (List ℕ)
  pub all : relative_labels octets ≡ done ++ todo
  pub here : drop at octets ≡ labels_wire todo
  pub at_is : length (labels_wire done) ≡ at
  pub new_is : new ≡ take (end - at) old ++ (labels_wire (reverse done) ++ drop end old)

-- the label at the place
pub record NextLabel (octets old : List ℕ) (end at size : ℕ) (new : List ℕ) : Type 0 where
  pub fits : at + 1 + size ≤ length octets
  pub long : length (slice_range octets at (at + 1 + size)) ≡ 1 + size
  pub more : (newer : List ℕ) → newer ≡ take (end - at - length (slice_range octets at (at + 1 + size))) new ++ (slice_range octets at (at + 1 + size) ++ drop (end - at) new) → Turned octets old end (at + 1 + size) newer

module _ (octets old : List ℕ) (end : ℕ) (is : relative_name octets ≡ Some (relative_labels octets)) (room : length octets ≤ end) (within : end ≤ length old) where
  octets_are : octets ≡ labels_wire (relative_labels octets)
  octets_are = (relative_is octets (relative_labels octets) is).1

  pub turned_none : Turned octets old end 0 old
  turned_none =
      record {
        done = [];
        todo = relative_labels octets;
        all = refl;
        here = octets_are;
        at_is = refl;
        new_is = sym (ap (λ (n : ℕ). take n old ++ drop end old) (omega arith) ∙ take-append-drop end old);
      }

  pub turned_within : (at : ℕ) (new : List ℕ) → Turned octets old end at new → (at ≤ length octets) × (length new ≡ length old)
  turned_within at new turned =
      let long : length octets ≡ at + length (labels_wire turned.todo) =
      ap length (octets_are ∙ ap labels_wire turned.all ∙ labels_wire-append turned.done turned.todo) ∙ length-append (labels_wire turned.done) (labels_wire turned.todo) ∙ omega (arith, turned.at_is) in (
        omega (arith, long),
        ap length turned.new_is ∙ length-append (take (end - at) old) (labels_wire (reverse turned.done) ++ drop end old)
            ∙ omega (arith, long, turned.at_is, reversed_long turned.done, length-take (end - at) old, length-append (labels_wire (reverse turned.done)) (drop end old), length-drop end old),
      )

  with_label : (at size : ℕ) (new : List ℕ) (done : List (List ℕ)) (label : List ℕ) (labels : List (List ℕ)) → at ≤ end → relative_labels octets ≡ done ++ label ∷ labels → drop at octets ≡ labels_wire (label ∷ labels) → length (labels_wire done) ≡ at → new ≡ take (end - at) old ++ (labels_wire (reverse done) ++ drop end old) → at < length octets → get_or octets at 0 ≡ size → NextLabel octets old end at size new
  with_label at size new done label labels before all here at_is new_is some size_is =
      let head : drop at octets ≡ size ∷ drop (at + 1) octets = rw (← size_is, add-one) (drop-cons octets at 0 some) in
      let both : size ∷ drop (at + 1) octets ≡ length label ∷ (label ++ labels_wire labels) = sym head ∙ here in
      let long : size ≡ length label = ap (λ (l : List ℕ). get_or l 0 0) both in
      let body : drop (at + 1) octets ≡ label ++ labels_wire labels = ap (drop 1) both in
      let count : at + 1 + size - at ≡ suc size = omega arith in
      let piece : slice_range octets at (at + 1 + size) ≡ length label ∷ label = rw (count, here) (ap (λ (l : List ℕ). length label ∷ l) (take_at label (labels_wire labels) size (sym long))) in
      let piece_long : length (slice_range octets at (at + 1 + size)) ≡ 1 + size = ap length piece ∙ omega (arith, long) in
      let fits : at + 1 + size ≤ length octets = omega (arith, long, ap length body, length-drop (at + 1) octets, length-append label (labels_wire labels)) in
      let piece_of : List ℕ = slice_range octets at (at + 1 + size) in
      let prefix : List ℕ = take (end - at) old in let unchanged : List ℕ = labels_wire (reverse done) ++ drop end old in
      let prefix_long : length prefix ≡ end - at = omega (arith, within, length-take (end - at) old) in
      let left : end - at - length piece_of ≡ end - (at + 1 + size) = omega (arith, piece_long) in
      let at_prefix : take (end - at - length piece_of) new ≡ take (end - (at + 1 + size)) old =
      ap (take (end - at - length piece_of)) new_is ∙ take-append-le (end - at - length piece_of) prefix unchanged (omega (arith, prefix_long)) ∙ take-take (end - at - length piece_of) (end - at) old (omega arith) ∙ ap (λ (n : ℕ). take n old) left in
      let at_back : drop (end - at) new ≡ unchanged = ap (drop (end - at)) new_is ∙ drop_at prefix unchanged (end - at) prefix_long in
      let turned : labels_wire (reverse (done ++ label ∷ [])) ≡ piece_of ++ labels_wire (reverse done) = ap labels_wire (reverse-append done (label ∷ [])) ∙ ap (λ (l : List ℕ). l ++ labels_wire (reverse done)) (sym piece) in
      record {
        fits = fits;
        long = piece_long;
        more = λ newer newer_is. record {
          done = done ++ label ∷ [];
          todo = labels;
          all = all ∙ sym (append_assoc done (label ∷ []) labels);
          here = sym (drop-drop size (at + 1) octets ∙ ap (λ (n : ℕ). drop n octets) (omega arith)) ∙ ap (drop size) body ∙ drop_at label (labels_wire labels) size (sym long);
          at_is = ap length (labels_wire-append done (label ∷ [])) ∙ length-append (labels_wire done) (labels_wire (label ∷ [])) ∙ omega (arith, at_is, long, length-append label []);
          new_is = newer_is
              ∙ ap (λ (l : List ℕ). l ++ (piece_of ++ drop (end - at) new)) at_prefix
              ∙ ap (λ (l : List ℕ). take (end - (at + 1 + size)) old ++ (piece_of ++ l)) at_back
              ∙ ap (λ (l : List ℕ). take (end - (at + 1 + size)) old ++ l) (sym (append_assoc piece_of (labels_wire (reverse done)) (drop end old)) ∙ ap (λ (l : List ℕ). l ++ drop end old) (sym turned));
        };
      }

  pub turned_more : (at size : ℕ) (new : List ℕ) → Turned octets old end at new → at < length octets → get_or octets at 0 ≡ size → NextLabel octets old end at size new
  turned_more at size new turned some size_is = by turned.todo turned.all turned.here where
    by : (todo : List (List ℕ)) → relative_labels octets ≡ turned.done ++ todo → drop at octets ≡ labels_wire todo → NextLabel octets old end at size new
    by [] all here = absurd (omega (arith, some, ap length here, length-drop at octets))
    by (label ∷ labels) all here = with_label at size new turned.done label labels (omega (arith, some, room)) all here turned.at_is turned.new_is some size_is

  pub turned_all : (at : ℕ) (new : List ℕ) → Turned octets old end at new → length octets ≤ at → new ≡ take (end - length octets) old ++ (labels_wire (reverse (relative_labels octets)) ++ drop end old)
  turned_all at new turned past =
      let none : turned.todo ≡ [] = no_labels turned.todo (sym turned.here ∙ drop_all at octets past) in
      let all : relative_labels octets ≡ turned.done = turned.all ∙ ap (λ (l : List (List ℕ)). turned.done ++ l) none ∙ append-nil turned.done in
      let place : at ≡ length octets = omega (arith, past, (turned_within at new turned).0) in
      rw (all, ← place) turned.new_is

-- ---- the other layout in a buffer

-- the labels of a reversed name are before the root
pub forward_occurs : (old with_root new : List ℕ) (labels : List (List ℕ)) (start end : ℕ) → end ≡ start + length (wire labels) → end ≤ length old
    → with_root ≡ take (end - 1) old ++ (0 ∷ [] ++ drop end old) → new ≡ take (end - 1 - length (labels_wire labels)) with_root ++ (labels_wire labels ++ drop (end - 1) with_root) → Occurs (wire labels) old start new end
forward_occurs old with_root new labels start end end_is within root_is new_is =
    let prefix : List ℕ = take (end - 1) old in let back : List ℕ = 0 ∷ drop end old in
    let long : length prefix ≡ end - 1 = omega (arith, within, length-take (end - 1) old) in
    let room : start ≤ end - 1 = omega (arith, end_is, wire_long labels) in
    let place : end - 1 - length (labels_wire labels) ≡ start = omega (arith, end_is, wire_long labels) in
    let at_prefix : take (end - 1 - length (labels_wire labels)) with_root ≡ take start old =
    ap (λ (n : ℕ). take n with_root) place ∙ ap (take start) root_is ∙ take-append-le start prefix back (omega (arith, long, room)) ∙ take-take start (end - 1) old room in
    let at_back : drop (end - 1) with_root ≡ back = ap (drop (end - 1)) root_is ∙ drop_at prefix back (end - 1) long in
    record {
      end_is = end_is;
      within = within;
      new_is = new_is ∙ ap (λ (l : List ℕ). l ++ (labels_wire labels ++ drop (end - 1) with_root)) at_prefix ∙ ap (λ (l : List ℕ). take start old ++ (labels_wire labels ++ l)) at_back
          ∙ ap (λ (l : List ℕ). take start old ++ l) (sym (append_assoc (labels_wire labels) (0 ∷ []) (drop end old)));
    }

-- the octets at the start of a buffer are a name's
pub record HoldsName (buffer : List ℕ) (size : ℕ) (labels : List (List ℕ)) : Type 0 where
  pub short : size ≤ 255
  pub whole : all_of (plain_name (take size buffer)) ≡ Some (name_labels (take size buffer))
  pub labels_are : name_labels (take size buffer) ≡ labels

pub holds_name : (old new : List ℕ) (size : ℕ) (labels : List (List ℕ)) → IsName labels → Occurs (wire labels) old 0 new size → HoldsName new size labels
holds_name old new size labels is occurs =
    let long : length (wire labels) ≡ size = omega (arith, occurs.end_is) in
    let prefix : take size new ≡ wire labels = ap (take size) occurs.new_is ∙ take_at (wire labels) (drop size old) size long in
    let again = labels_of_wire labels is in
    record {
      short = omega (arith, long, is.size);
      whole = rw (prefix, again.1) again.0;
      labels_are = rw prefix again.1;
    }
