-- Labels of a name before its first pointer, and the name that is read with them.
use Rattle.std.proofs.Common.{◌≡◌, ℕ, ◌+◌, ◌<◌, ◌≤◌, List, [], ◌∷◌, ◌++◌, length, take, drop, Option, Some, None, refl, ap, subst, ◌∙◌, arith, append-nil}
use Rattle.std.specs.List.{AllByRecursion}
use Rattle.std.proofs.lemmas.List.{length-append, length-drop, length-take}
use Rattle.std.specs.Str.{str_to_ascii_lowercase}
use Rattle.dns_wire.specs.Names.{IsLabel, labels_wire, name_labels, wire}
use Rattle.dns_wire.specs.Pointers.{Segment}
use Rattle.dns_wire.specs.Pointers.Segment.{at_label, at_pointer, at_root}
use Rattle.dns_wire.specs.declared.name_cursor.LabelType.TheVariants.{Root, Label, Pointer}
use Rattle.dns_wire.proofs.Following.{label_type_is, name_at_finds, name_at_is}
use Rattle.dns_wire.proofs.Lowered.{lower_wire}
use Rattle.dns_wire.proofs.Spelled.{name_octets}
use Rattle.dns_name.specs.OwnLabels.{AreCopied, EndsAs, LabelsFrom}
use Rattle.dns_name.specs.OwnLabels.LabelsFrom.{no_more, one_more}
use Rattle.dns_name.specs.declared.own_labels.OwnLabels.{OwnLabels}
use Rattle.dns_name.proofs.Followed.{Reads}
use Rattle.dns_chain.specs.CanonicalNames.{GoesOn, HasOwnLabels, IsReadAs}

own_sizes : (contents : List ℕ) (start at stop : ℕ) (labels : List (List ℕ)) → LabelsFrom contents start at labels stop → AllByRecursion IsLabel labels
own_sizes contents start at stop labels no_more = tt
own_sizes contents start at stop labels (one_more {size = size} {others = others} is later) =
    let h = label_type_is contents start at (Label size) is in
    let long : length (take size (drop (at + 1) contents)) ≡ size = omega (arith, length-take size (drop (at + 1) contents), length-drop (at + 1) contents, h.3) in
    ((omega (arith, long, h.1), omega (arith, long, h.2)), own_sizes contents start (at + 1 + size) stop others later)

own_forward : (contents : List ℕ) (start at stop : ℕ) (labels : List (List ℕ)) → LabelsFrom contents start at labels stop → at ≤ stop
own_forward contents start at stop labels no_more = omega arith
own_forward contents start at stop labels (one_more {size = size} {others = others} is later) = omega (arith, own_forward contents start (at + 1 + size) stop others later)

-- what is read after the labels comes after them
own_more : (contents : List ℕ) (start at stop end : ℕ) (labels others : List (List ℕ)) → LabelsFrom contents start at labels stop → Segment contents start stop others end → Segment contents start at (labels ++ others) end
own_more contents start at stop end labels others no_more segment = segment
own_more contents start at stop end labels others (one_more {size = size} {others = rest} is later) segment =
    let h = label_type_is contents start at (Label size) is in
    at_label {others = rest ++ others} (rw h.0 h.1) (rw h.0 h.2) (rw h.0 h.3) (rw h.0 refl) (rw h.0 (own_more contents start (at + 1 + size) stop end rest others later segment))

-- where a pointer after the labels leads
pub own_target : (contents : List ℕ) (start before target : ℕ) (old new : List ℕ) (own : OwnLabels) (labels : List (List ℕ)) → AreCopied contents start before old new own labels → own.target ≡ Some target → target + 2 ≤ length contents
own_target contents start before target old new own labels is some =
    let pointer = subst (EndsAs contents start is.stop own.end) some is.ends in
    let h = label_type_is contents start is.stop (Pointer target) pointer.0 in
    omega (arith, h.1, h.3, own_forward contents start start is.stop labels is.there)

-- ---- own labels alone

module _ (contents : List ℕ) (start : ℕ) (old new newer : List ℕ) (own : OwnLabels) (labels : List (List ℕ)) (is : AreCopied contents start 0 old new own labels)
    (put : take (own.size + 1) newer ≡ str_to_ascii_lowercase (take own.size new ++ 0 ∷ [])) where
  wire_long : own.size + 1 ≡ length (wire labels)
  wire_long = omega (arith, is.size, length-append (labels_wire labels) (0 ∷ []))

  sizes : AllByRecursion IsLabel labels
  sizes = own_sizes contents start start is.stop labels is.there

  forward : start ≤ is.stop
  forward = own_forward contents start start is.stop labels is.there

  goes_on : (target : Option ℕ) → EndsAs contents start is.stop own.end target → GoesOn contents start labels own.end target
  goes_on None ends =
      let h = label_type_is contents start is.stop Root ends.0 in
      name_at_finds contents start labels own.end
      (record {
        reads = subst (λ (l : List (List ℕ)). Segment contents start start l own.end) (append-nil labels) (own_more contents start start is.stop own.end labels [] is.there (at_root h.0 h.1 refl ends.1));
        short = omega (arith, wire_long, is.short);
      })
  goes_on (Some target) ends =
      let h = label_type_is contents start is.stop (Pointer target) ends.0 in (
        h.3,
        λ base later read long.
            name_at_finds contents start (labels ++ base) own.end
            (record { reads = own_more contents start start is.stop own.end labels base is.there (at_pointer h.0 h.1 h.2 h.3 (name_at_is contents target base later read).reads ends.1); short = long }),
      )

  within : (target : Option ℕ) → EndsAs contents start is.stop own.end target → (start < own.end) × (own.end ≤ length contents)
  within None ends = (omega (arith, ends.1, forward), omega (arith, ends.1, label_type_is contents start is.stop Root ends.0))
  within (Some target) ends = (omega (arith, ends.1, forward), omega (arith, ends.1, label_type_is contents start is.stop (Pointer target) ends.0))

  pub own_labels_read : HasOwnLabels contents start newer own
  own_labels_read =
      let between = within own.target is.ends in (
        labels,
        record { sizes = sizes; size = omega (arith, wire_long, is.short) },
        wire_long,
        put ∙ ap (λ (l : List ℕ). str_to_ascii_lowercase (l ++ 0 ∷ [])) is.octets ∙ lower_wire labels sizes,
        between.0,
        between.1,
        goes_on own.target is.ends,
      )

-- ---- a whole name

pub whole_name_read : (contents : List ℕ) (start size end : ℕ) (new newer : List ℕ) → Reads contents start (take size new ++ 0 ∷ []) end → size ≤ length new → take (size + 1) newer ≡ str_to_ascii_lowercase (take size new ++ 0 ∷ [])
    → IsReadAs contents start newer (record { size = size + 1; end = end })
whole_name_read contents start size end new newer found room put =
    let octets : List ℕ = take size new ++ 0 ∷ [] in
    let name = name_octets octets (name_labels octets) found.whole in
    let long : length octets ≡ size + 1 = omega (arith, length-append (take size new) (0 ∷ []), length-take size new, room) in (
      name_labels octets,
      found.reads,
      name.0,
      omega (arith, long, ap length name.1),
      put ∙ ap str_to_ascii_lowercase name.1 ∙ lower_wire (name_labels octets) name.0.sizes,
    )
