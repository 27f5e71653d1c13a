-- Names of plain labels: they are as text what they are, with a dot after each label.
use Rattle.std.proofs.Common.{◌≡◌, ℕ, ◌+◌, ◌≤◌, List, [], ◌∷◌, ◌++◌, length, arith}
use Rattle.std.specs.Prelude.{Ok}
use Rattle.std.specs.List.{AllByRecursion}
use Rattle.std.proofs.lemmas.List.{length-append}
use Rattle.dns_wire.specs.Names.{IsLabel, IsName, labels_wire, wire}
use Rattle.dns_wire.specs.Reading.{AreOctets}
use Rattle.dns_wire.proofs.Walk.{wire_long}
use Rattle.dns_name.specs.Text.{SpellsLabels, parsed_name}
use Rattle.dns_name.specs.Text.SpellsLabels.{ended, dotted}
use Rattle.dns_name.proofs.NameTexts.{parsed_again}
use Rattle.dns_message.proofs.Octets.{no_octets, one_more, octets_of_both}
use Rattle.dns_canon.proofs.DecimalLemmas.{IsPlain, plain_spells, plain_octets}

-- each label is plain, and has from one octet to that many
abbrev pub ArePlain : List (List ℕ) → Type 0
ArePlain labels = AllByRecursion (λ label. AllByRecursion IsPlain label × IsLabel label) labels

-- a dot after each label
abbrev pub with_dots : List (List ℕ) → List ℕ
with_dots [] = []
with_dots (label ∷ labels) = label ++ 46 ∷ with_dots labels

spelled : (labels : List (List ℕ)) → ArePlain labels → SpellsLabels (with_dots labels) labels
spelled [] all = ended
spelled (label ∷ labels) (one, all) = dotted label label (with_dots labels) labels (plain_spells label one.0) (spelled labels all)

sizes : (labels : List (List ℕ)) → ArePlain labels → AllByRecursion IsLabel labels
sizes [] all = tt
sizes (label ∷ labels) (one, all) = (one.1, sizes labels all)

pub labels_wire_size : (label : List ℕ) (labels : List (List ℕ)) → length (labels_wire (label ∷ labels)) ≡ 1 + length label + length (labels_wire labels)
labels_wire_size label labels = omega (arith, length-append label (labels_wire labels))

pub plain_name_is : (labels : List (List ℕ)) → ArePlain labels → length (labels_wire labels) ≤ 254 → IsName labels
plain_name_is labels all short = record { sizes = sizes labels all; size = omega (arith, short, wire_long labels) }

pub plain_parsed : (labels : List (List ℕ)) → ArePlain labels → length (labels_wire labels) ≤ 254 → parsed_name (with_dots labels) ≡ Ok labels
plain_parsed labels all short = parsed_again (with_dots labels) labels (spelled labels all) (plain_name_is labels all short)

labels_wire_octets : (labels : List (List ℕ)) → ArePlain labels → AreOctets (labels_wire labels)
labels_wire_octets [] all = no_octets
labels_wire_octets (label ∷ labels) (one, all) =
    one_more (length label) (label ++ labels_wire labels) (omega (arith, one.1.1)) (octets_of_both label (labels_wire labels) (plain_octets label one.0) (labels_wire_octets labels all))

pub name_octets : (labels : List (List ℕ)) → ArePlain labels → AreOctets (wire labels)
name_octets labels all = octets_of_both (labels_wire labels) (0 ∷ []) (labels_wire_octets labels all) (one_more 0 [] (omega arith) no_octets)
