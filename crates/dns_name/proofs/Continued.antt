-- A name that is read in a message is an unparsed name there, and what its pointer leads to.
use Rattle.std.proofs.Common.{◌≡◌, ℕ, ◌+◌, ◌-◌, ◌<◌, ◌≤◌, List, [], ◌∷◌, ◌++◌, length, take, drop, Option, Some, None, refl, sym, ap, subst, ◌∙◌, append_assoc, arith}
use Rattle.std.specs.Prelude.{slice_index, IfSome, option_map}
use Rattle.std.specs.List.{AllByRecursion}
use Rattle.std.proofs.lemmas.List.{take_at, drop_at, take-append-drop, length-append, length-take, length-drop, drop-drop}
use Rattle.dns_wire.specs.Names.{IsLabel, labels_wire, wire}
use Rattle.dns_wire.specs.Pointers.{Segment, NameAt, offset_at, name_at}
use Rattle.dns_wire.specs.Pointers.Segment.{at_root, at_label, at_pointer}
use Rattle.dns_wire.proofs.Following.{name_at_is, name_at_finds, segment_ends}
use Rattle.dns_wire.proofs.Walk.{labels_wire-append, wire_long, next_label_type}
use Rattle.dns_name.specs.Unparsed.{Unparsed, IsUnparsed, LeadsBack, LeadsTo, Continued, offset_of_pointer, end_offset, last_octets, unparsed_at, unparsed_wire}
use Rattle.dns_name.proofs.UnparsedNamesAt.{UnparsedParts, unparsed_parts, unparsed_found}

-- ---- from a name to an unparsed one

record Prefix (contents : List ℕ) (start at : ℕ) (labels : List (List ℕ)) (end : ℕ) : Type 0 where
  prefix : Unparsed
  sizes : AllByRecursion IsLabel prefix.0
  pointer : IfSome prefix.1 (λ octets. 192 ≤ octets.0)
  back : LeadsBack start (end_offset prefix)
  others : List (List ℕ)
  goes_on : LeadsTo contents (end_offset prefix) others
  labels_are : labels ≡ prefix.0 ++ others
  octets : drop at contents ≡ unparsed_wire prefix ++ drop end contents
  end_is : at + length (unparsed_wire prefix) ≡ end

-- a label's octets, and what follows them
label_parts : (contents : List ℕ) (at : ℕ) → at < length contents → drop at contents ≡ slice_index contents at ∷ (take (slice_index contents at) (drop (at + 1) contents) ++ drop (at + 1 + slice_index contents at) contents)
label_parts contents at within =
    let size : ℕ = slice_index contents at in
    next_label_type contents at size within refl
    ∙ ap (λ (l : List ℕ). size ∷ l) (sym (take-append-drop size (drop (at + 1) contents)) ∙ ap (λ (l : List ℕ). take size (drop (at + 1) contents) ++ l) (drop-drop size (at + 1) contents))

others_short : (label : List ℕ) (labels others : List (List ℕ)) → labels ≡ label ∷ others → length (wire labels) ≤ 255 → length (wire others) ≤ 255
others_short label labels others e short =
    let long : length (wire labels) ≡ length (wire (label ∷ others)) = ap (λ (l : List (List ℕ)). length (wire l)) e in
    omega (arith, long, wire_long (label ∷ others), wire_long others, length-append label (labels_wire others))

with_label : (contents : List ℕ) (start at : ℕ) (labels others : List (List ℕ)) (end : ℕ) → 0 < slice_index contents at → slice_index contents at < 64 → at + 1 + slice_index contents at ≤ length contents → labels ≡ take (slice_index contents at) (drop (at + 1) contents) ∷ others → Prefix contents start (at + 1 + slice_index contents at) others end → Prefix contents start at labels end
with_label contents start at labels others end some small room labels_is f =
    let size : ℕ = slice_index contents at in
    let label : List ℕ = take size (drop (at + 1) contents) in
    let long : length label ≡ size = omega (arith, room, length-take size (drop (at + 1) contents), length-drop (at + 1) contents) in
    let rest : List ℕ = drop end contents in
    record {
      prefix = (label ∷ f.prefix.0, f.prefix.1);
      sizes = ((omega (arith, some, long), omega (arith, small, long)), f.sizes);
      pointer = f.pointer;
      back = f.back;
      others = f.others;
      goes_on = f.goes_on;
      labels_are = labels_is ∙ ap (λ (l : List (List ℕ)). label ∷ l) f.labels_are;
      octets = label_parts contents at (omega (arith, room))
          ∙ ap (λ (n : ℕ). n ∷ (label ++ drop (at + 1 + size) contents)) (sym long)
          ∙ ap (λ (l : List ℕ). length label ∷ (label ++ l)) f.octets
          ∙ ap (λ (l : List ℕ). length label ∷ l) (sym (append_assoc label (unparsed_wire f.prefix) rest) ∙ ap (λ (l : List ℕ). l ++ rest) (sym (append_assoc label (labels_wire f.prefix.0) (last_octets f.prefix.1))));
      end_is = omega (arith, f.end_is, long, length-append (labels_wire f.prefix.0) (last_octets f.prefix.1), length-append (label ++ labels_wire f.prefix.0) (last_octets f.prefix.1), length-append label (labels_wire f.prefix.0));
    }

fronted : (contents : List ℕ) {start at end : ℕ} {labels : List (List ℕ)} → Segment contents start at labels end → length (wire labels) ≤ 255 → Prefix contents start at labels end
fronted contents {start} {at} {end} {labels} (at_root within zero_is labels_is end_is) short =
    record {
      prefix = ([], None);
      sizes = tt;
      pointer = tt;
      back = tt;
      others = [];
      goes_on = refl;
      labels_are = labels_is;
      octets = next_label_type contents at 0 within zero_is ∙ ap (λ (n : ℕ). 0 ∷ drop n contents) (sym end_is);
      end_is = sym end_is;
    }
fronted contents {start} {at} {end} {labels} (at_label {others = others} some small room labels_is later) short =
    with_label contents start at labels others end some small room labels_is
    (fronted contents later (others_short (take (slice_index contents at) (drop (at + 1) contents)) labels others labels_is short))
fronted contents {start} {at} {end} {labels} (at_pointer {target = target} {later = last} high room is before later end_is) short =
    let place : target ≡ offset_at contents at - 12 = omega (arith, is) in
    let second : at + 1 + 1 ≡ end = omega (arith, end_is) in
    record {
      prefix = ([], Some (slice_index contents at, slice_index contents (at + 1)));
      sizes = tt;
      pointer = high;
      back = (omega (arith, is), omega (arith, is, before));
      others = labels;
      goes_on = (last, ap (name_at contents) (sym place) ∙ name_at_finds contents target labels last (record { reads = later; short = short }));
      labels_are = refl;
      octets = next_label_type contents at (slice_index contents at) (omega (arith, room)) refl
          ∙ ap (λ (l : List ℕ). slice_index contents at ∷ l) (next_label_type contents (at + 1) (slice_index contents (at + 1)) (omega (arith, room)) refl ∙ ap (λ (n : ℕ). slice_index contents (at + 1) ∷ drop n contents) second);
      end_is = sym end_is;
    }

pub continued : (contents : List ℕ) (start : ℕ) (labels : List (List ℕ)) (end : ℕ) → name_at contents start ≡ Some (labels, end) → Continued contents start labels end
continued contents start labels end e =
    let name : NameAt contents start labels end = name_at_is contents start labels end e in
    let f : Prefix contents start start labels end = fronted contents name.reads name.short in
    let within = segment_ends contents name.reads in
    let prefix : List ℕ = take start contents in
    let count : length prefix ≡ start = omega (arith, within.0, within.1, length-take start contents) in
    let parts : contents ≡ prefix ++ (unparsed_wire f.prefix ++ drop end contents) = sym (take-append-drop start contents) ∙ ap (λ (l : List ℕ). prefix ++ l) f.octets in
    let all : length (wire labels) ≡ length (wire (f.prefix.0 ++ f.others)) = ap (λ (l : List (List ℕ)). length (wire l)) f.labels_are in
    let few : length (labels_wire f.prefix.0) ≤ 254 = omega (arith, all, name.short, wire_long (f.prefix.0 ++ f.others), ap length (labels_wire-append f.prefix.0 f.others), length-append (labels_wire f.prefix.0) (labels_wire f.others)) in
    let is : IsUnparsed f.prefix = record { sizes = f.sizes; size = few; pointer = f.pointer } in
    let back : LeadsBack (length prefix) (end_offset f.prefix) = subst (λ (n : ℕ). LeadsBack n (end_offset f.prefix)) (sym count) f.back in
    record {
      prefix = f.prefix;
      occurs = ap (λ (l : List ℕ). unparsed_at l start) parts
          ∙ ap (unparsed_at (prefix ++ (unparsed_wire f.prefix ++ drop end contents))) (sym count)
          ∙ unparsed_found prefix (drop end contents) f.prefix is back
          ∙ ap (λ (n : ℕ). Some (f.prefix, n)) (ap (λ (n : ℕ). n + length (unparsed_wire f.prefix)) count ∙ f.end_is);
      others = f.others;
      goes_on = f.goes_on;
      labels_are = f.labels_are;
      short = name.short;
    }

-- ---- from an unparsed name to a name

-- what is at a place
record Stood (contents : List ℕ) (at x : ℕ) (rest : List ℕ) : Type 0 where
  within : at < length contents
  here : slice_index contents at ≡ x
  trailing : drop (at + 1) contents ≡ rest

stood : (contents : List ℕ) (at x : ℕ) (rest : List ℕ) → drop at contents ≡ x ∷ rest → Stood contents at x rest
stood contents at x rest e =
    let within : at < length contents = omega (arith, ap length e, length-drop at contents) in
    let both : slice_index contents at ∷ drop (at + 1) contents ≡ x ∷ rest = sym (next_label_type contents at (slice_index contents at) within refl) ∙ e in
    record { within = within; here = cc; trailing = cc }

segment_on : (contents : List ℕ) (start : ℕ) (others labels : List (List ℕ)) (last : Option (ℕ × ℕ)) (at end : ℕ) → AllByRecursion IsLabel labels → IfSome last (λ octets. 192 ≤ octets.0) → LeadsBack start (option_map offset_of_pointer last) → LeadsTo contents (option_map offset_of_pointer last) others → drop at contents ≡ (labels_wire labels ++ last_octets last) ++ drop end contents → at + length (labels_wire labels ++ last_octets last) ≡ end → Segment contents start at (labels ++ others) end
segment_on contents start others [] None at end sizes high back on octets ends =
    let s = stood contents at 0 (drop end contents) octets in
    at_root s.within s.here on (sym ends)
segment_on contents start others [] (Some (first, second)) at end sizes high back on octets ends =
    let s = stood contents at first (second ∷ drop end contents) octets in
    let t = stood contents (at + 1) second (drop end contents) s.trailing in
    let offset : offset_at contents at ≡ offset_of_pointer (first, second) = rw (s.here, t.here) refl in
    let name : NameAt contents (offset_of_pointer (first, second) - 12) others on.0 = name_at_is contents (offset_of_pointer (first, second) - 12) others on.0 on.1 in
    at_pointer {target = offset_of_pointer (first, second) - 12} (rw s.here high) (omega (arith, t.within)) (omega (arith, offset, back.0)) (omega (arith, back.0, back.1)) name.reads (omega (arith, ends))
segment_on contents start others (label ∷ labels) last at end sizes high back on octets ends =
    let tail : List ℕ = (labels_wire labels ++ last_octets last) ++ drop end contents in
    let s = stood contents at (length label) (((label ++ labels_wire labels) ++ last_octets last) ++ drop end contents) octets in
    let parts : drop (at + 1) contents ≡ label ++ tail = s.trailing ∙ ap (λ (l : List ℕ). l ++ drop end contents) (append_assoc label (labels_wire labels) (last_octets last)) ∙ append_assoc label (labels_wire labels ++ last_octets last) (drop end contents) in
    let contents_are : take (length label) (drop (at + 1) contents) ≡ label = ap (take (length label)) parts ∙ take_at label tail (length label) refl in
    let later : drop (at + 1 + length label) contents ≡ tail = sym (drop-drop (length label) (at + 1) contents) ∙ ap (drop (length label)) parts ∙ drop_at label tail (length label) refl in
    let room : at + 1 + length label ≤ length contents = omega (arith, s.within, ap length parts, length-drop (at + 1) contents, length-append label tail) in
    let ended : at + 1 + length label + length (labels_wire labels ++ last_octets last) ≡ end =
    omega (arith, ends, length-append (labels_wire labels) (last_octets last), length-append (label ++ labels_wire labels) (last_octets last), length-append label (labels_wire labels)) in
    let more : Segment contents start (at + 1 + length label) (labels ++ others) end = segment_on contents start others labels last (at + 1 + length label) end sizes.1 high back on later ended in
    at_label {others = labels ++ others} (rw s.here sizes.0.0) (rw s.here sizes.0.1) (rw s.here room) (rw (s.here, contents_are) refl) (rw s.here more)

pub read_on : (contents : List ℕ) (start : ℕ) (labels : List (List ℕ)) (end : ℕ) → Continued contents start labels end → name_at contents start ≡ Some (labels, end)
read_on contents start labels end c =
    let p : UnparsedParts contents start c.prefix end = unparsed_parts contents start c.prefix end c.occurs in
    let reads : Segment contents start start (c.prefix.0 ++ c.others) end = segment_on contents start c.others c.prefix.0 c.prefix.1 start end p.is.sizes p.is.pointer p.back c.goes_on p.octets p.end_is in
    name_at_finds contents start labels end (record { reads = subst (λ (l : List (List ℕ)). Segment contents start start l end) (sym c.labels_are) reads; short = c.short })
