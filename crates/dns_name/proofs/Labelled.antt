-- The labels of a name, one after another.
use Rattle.std.proofs.Common.{◌≡◌, ℕ, suc, ◌+◌, ◌*◌, ◌<◌, ◌≤◌, List, [], ◌∷◌, ◌++◌, length, get_or, take, drop, Some, sym, ap, ◌∙◌, arith}
use Rattle.std.specs.Prelude.{reverse}
use Rattle.std.specs.List.{AllByRecursion}
use Rattle.std.proofs.lemmas.List.{length-append}
use Rattle.dns_wire.specs.Names.{IsLabel, labels_wire, plain_name, name_labels}
use Rattle.dns_wire.specs.Reading.{all_of}
use Rattle.dns_wire.specs.Reversed.{reversed_name, reversed_name_labels}
use Rattle.dns_wire.proofs.Backward.{name_reversed, reversed_is}
use Rattle.dns_wire.proofs.Spelled.{name_octets}
use Rattle.dns_wire.proofs.Walk.{labels_wire-append, wire_long}
use Rattle.dns_label.specs.Labels.{FitsLabel, AreLabels, sequence_labels}
use Rattle.dns_label.proofs.FilledLabels.{are_labels, labels_in_wire}

sizes_short : (labels : List (List ℕ)) → AllByRecursion IsLabel labels → AllByRecursion FitsLabel (labels ++ [] ∷ [])
sizes_short [] sizes = (omega arith, tt)
sizes_short (label ∷ labels) sizes = (sizes.0.1, sizes_short labels sizes.1)

-- each label has an octet at least, and its length
twice : (labels : List (List ℕ)) → AllByRecursion IsLabel labels → 2 * length labels ≤ length (labels_wire labels)
twice [] sizes = omega arith
twice (label ∷ labels) sizes = omega (arith, twice labels sizes.1, sizes.0.0, length-append label (labels_wire labels))

-- a name's octets are its labels, and then the root's
pub record NameFilled (bytes : List ℕ) : Type 0 where
  pub are : AreLabels bytes
  pub labels : sequence_labels bytes ≡ name_labels bytes ++ [] ∷ []
  pub few : length (name_labels bytes) < 128

pub name_filled : (bytes : List ℕ) → all_of (plain_name bytes) ≡ Some (name_labels bytes) → NameFilled bytes
name_filled bytes is =
    let t = name_octets bytes (name_labels bytes) is in
    let parts : bytes ≡ labels_wire (name_labels bytes ++ [] ∷ []) = t.1 ∙ sym (labels_wire-append (name_labels bytes) ([] ∷ [])) in
    let sizes = sizes_short (name_labels bytes) t.0.sizes in
    record {
      are = are_labels bytes (name_labels bytes ++ [] ∷ []) sizes parts;
      labels = (labels_in_wire bytes (name_labels bytes ++ [] ∷ []) sizes parts).1;
      few = omega (arith, twice (name_labels bytes) t.0.sizes, wire_long (name_labels bytes), t.0.size);
    }

-- ---- from the root on

pub all_short : (labels : List (List ℕ)) → AllByRecursion IsLabel labels → AllByRecursion FitsLabel labels
all_short [] sizes = tt
all_short (label ∷ labels) sizes = (sizes.0.1, all_short labels sizes.1)

-- the octets of a name from the root on are the root's label, and then its labels from the last to the first
pub record ReversedNameFilled (bytes : List ℕ) : Type 0 where
  pub are : AreLabels bytes
  pub labels : sequence_labels bytes ≡ [] ∷ reverse (reversed_name_labels bytes)
  pub few : length (reverse (reversed_name_labels bytes)) < 128

pub reversed_name_filled : (bytes : List ℕ) → reversed_name bytes ≡ Some (reversed_name_labels bytes) → ReversedNameFilled bytes
reversed_name_filled bytes is =
    let t = reversed_is bytes (reversed_name_labels bytes) is in
    let turned = name_reversed (reversed_name_labels bytes) t.0 in
    let sizes : AllByRecursion FitsLabel ([] ∷ reverse (reversed_name_labels bytes)) = (omega arith, all_short (reverse (reversed_name_labels bytes)) turned.sizes) in
    record {
      are = are_labels bytes ([] ∷ reverse (reversed_name_labels bytes)) sizes t.1;
      labels = (labels_in_wire bytes ([] ∷ reverse (reversed_name_labels bytes)) sizes t.1).1;
      few = omega (arith, twice (reverse (reversed_name_labels bytes)) turned.sizes, wire_long (reverse (reversed_name_labels bytes)), turned.size);
    }

-- ---- the octets at the start

pub prefix_octets : (bytes : List ℕ) → 0 < length bytes → (size : ℕ) → take (1 + size) bytes ≡ get_or bytes 0 0 ∷ take size (drop 1 bytes)
prefix_octets [] some size = absurd (omega arith)
prefix_octets (x ∷ rest) some size = let after : 1 + size ≡ suc size = omega arith in ap (λ (n : ℕ). take n (x ∷ rest)) after
