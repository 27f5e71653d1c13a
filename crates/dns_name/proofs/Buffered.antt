-- Labels in a buffer, before a root that is not there yet.
use Rattle.std.proofs.Common.{◌≡◌, ℕ, suc, ◌+◌, ◌≤◌, List, [], ◌∷◌, ◌++◌, length, take, Some, refl, sym, ap, subst, ◌∙◌, arith}
use Rattle.std.specs.List.{AllByRecursion}
use Rattle.std.specs.Prelude.{IsTrue}
use Rattle.std.proofs.lemmas.Bool.{leb-true}
use Rattle.std.proofs.lemmas.List.{append-nil, length-take}
use Rattle.dns_wire.specs.Names.{labels_wire, wire, IsLabel, IsName, plain_name, name_labels}
use Rattle.dns_wire.specs.Reading.{all_of}
use Rattle.dns_wire.specs.Reversed.{relative_name, relative_labels}
use Rattle.dns_wire.proofs.Backward.{relative_is}
use Rattle.dns_wire.proofs.Spelled.{labels_of_wire}
use Rattle.dns_wire.proofs.Walk.{AllByRecursion-append, labels_wire-append, wire_long}
use Rattle.dns_label.specs.Labels.{AreLabels, FitsLabel, label_wire, sequence_labels}
use Rattle.dns_label.proofs.FilledLabels.{are_labels, labels_in_wire}
use Rattle.dns_name.specs.Text.{fits}
use Rattle.dns_name.proofs.Labelled.{all_short}

-- the octets are these labels, each after its length
pub record Held (octets : List ℕ) (labels : List (List ℕ)) : Type 0 where
  pub sizes : AllByRecursion IsLabel (sequence_labels octets)
  pub octets_are : octets ≡ labels_wire (sequence_labels octets)
  pub labels_are : sequence_labels octets ≡ labels

pub held : (octets : List ℕ) (labels : List (List ℕ)) → AllByRecursion IsLabel labels → octets ≡ labels_wire labels → Held octets labels
held octets labels sizes is =
    let same = (labels_in_wire octets labels (all_short labels sizes) is).1 in
    record { sizes = subst (AllByRecursion IsLabel) (sym same) sizes; octets_are = is ∙ ap labels_wire (sym same); labels_are = same }

pub held_none : Held [] []
held_none = held [] [] tt refl

-- a label after others
pub held_more : (octets new wire : List ℕ) (labels : List (List ℕ)) (label : List ℕ) → AllByRecursion IsLabel (sequence_labels octets) → octets ≡ labels_wire (sequence_labels octets) → sequence_labels octets ≡ labels → wire ≡ label_wire label → IsLabel label → new ≡ octets ++ wire → Held new (labels ++ label ∷ [])
held_more octets new wire labels label sizes is same label_is fine parts =
    held new (labels ++ label ∷ []) (AllByRecursion-append labels (label ∷ []) (subst (AllByRecursion IsLabel) same sizes) (fine, tt))
    (parts ∙ ap (λ (l : List ℕ). l ++ wire) (is ∙ ap labels_wire same)
    ∙ ap (λ (l : List ℕ). labels_wire labels ++ l) (label_is ∙ ap (λ (l : List ℕ). length label ∷ l) (sym (append-nil label)))
    ∙ sym (labels_wire-append labels (label ∷ [])))

-- a label that fits has room
pub held_room : (buffer : List ℕ) (size : ℕ) (labels : List (List ℕ)) (label : List ℕ) → size ≤ 255 → length buffer ≡ 255 → take size buffer ≡ labels_wire (sequence_labels (take size buffer)) → sequence_labels (take size buffer) ≡ labels → IsTrue (fits labels label) → size + suc (length label) ≤ 255
held_room buffer size labels label small array is same fine =
    let room : length (labels_wire labels) + suc (length label) ≤ 255 = leb-true (length (labels_wire labels) + suc (length label)) 255 fine in
    omega (arith, room, ap length (is ∙ ap labels_wire same), length-take size buffer)

-- with the root after them they are a name
pub record Rooted (octets : List ℕ) (labels : List (List ℕ)) : Type 0 where
  pub whole : all_of (plain_name octets) ≡ Some (name_labels octets)
  pub labels_are : name_labels octets ≡ labels

pub rooted : (octets new : List ℕ) (labels : List (List ℕ)) → AllByRecursion IsLabel (sequence_labels octets) → octets ≡ labels_wire (sequence_labels octets) → sequence_labels octets ≡ labels → IsTrue (fits labels []) → new ≡ octets ++ 0 ∷ [] → Rooted new labels
rooted octets new labels sizes is same fine parts =
    let room : length (labels_wire labels) + 1 ≤ 255 = leb-true (length (labels_wire labels) + 1) 255 fine in
    let name : IsName labels = record { sizes = subst (AllByRecursion IsLabel) same sizes; size = omega (arith, room, wire_long labels) } in
    let t = labels_of_wire labels name in
    let spelled : new ≡ wire labels = parts ∙ ap (λ (l : List ℕ). l ++ 0 ∷ []) (is ∙ ap labels_wire same) in
    let again : name_labels new ≡ labels = ap name_labels spelled ∙ t.1 in
    record { whole = ap (λ (l : List ℕ). all_of (plain_name l)) spelled ∙ t.0 ∙ ap Some (sym again); labels_are = again }

-- the labels of a relative name
pub relative_held : (bytes : List ℕ) → relative_name bytes ≡ Some (relative_labels bytes) → AreLabels bytes × (sequence_labels bytes ≡ relative_labels bytes)
relative_held bytes is =
    let t = relative_is bytes (relative_labels bytes) is in
    let short : AllByRecursion FitsLabel (relative_labels bytes) = all_short (relative_labels bytes) t.0.sizes in
    (are_labels bytes (relative_labels bytes) short t.1, (labels_in_wire bytes (relative_labels bytes) short t.1).1)
