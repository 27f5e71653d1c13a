-- What the readings of names leave over, where what they read ends, and that what they read are names.
use Rattle.std.proofs.Common.{◌≡◌, ℕ, ◌*◌, ◌≤◌, List, [], ◌∷◌, length, drop, Some, refl, sym, ap, ◌∙◌, arith, length-append}
use Rattle.std.specs.List.{AllByRecursion}
use Rattle.std.proofs.lemmas.List.{drop_at}
use Rattle.dns_wire.specs.Names.{labels_wire, wire, plain_name, IsLabel, IsName}
use Rattle.dns_wire.specs.Pointers.{name_at}
use Rattle.dns_wire.specs.ReadingLemmas.{placed_some}
use Rattle.dns_wire.specs.Reading.{LeavesRest, EndsWithin, plain_at}
use Rattle.dns_wire.proofs.Spelled.{plain_name_takes}
use Rattle.dns_wire.proofs.Following.{name_at_is, name_at_name, segment_ends}

pub plain_name_leaves : LeavesRest plain_name
plain_name_leaves bytes labels rest e =
    let t = plain_name_takes bytes labels rest e in
    record {
      count = length (wire labels);
      within = omega (arith, ap length t.1, length-append (wire labels) rest);
      rest_is = sym (ap (drop (length (wire labels))) t.1 ∙ drop_at (wire labels) rest (length (wire labels)) refl);
    }

pub name_ends : EndsWithin name_at
name_ends contents at labels end e = let s = segment_ends contents (name_at_is contents at labels end e).reads in (omega (arith, s.0), s.1)

pub plain_name_names : (labels : List (List ℕ)) (bytes rest : List ℕ) → plain_name bytes ≡ Some (labels, rest) → IsName labels
plain_name_names labels bytes rest e = (plain_name_takes bytes labels rest e).0

pub name_at_names : (labels : List (List ℕ)) (contents : List ℕ) (at end : ℕ) → name_at contents at ≡ Some (labels, end) → IsName labels
name_at_names labels contents at end e = name_at_name contents at labels end (name_at_is contents at labels end e)

pub placed_names : (labels : List (List ℕ)) (contents : List ℕ) (at end : ℕ) → plain_at plain_name contents at ≡ Some (labels, end) → IsName labels
placed_names labels contents at end e =
    let p = placed_some plain_name contents at labels end e in
    plain_name_names labels (drop at contents) p.0 p.1

two_each : (labels : List (List ℕ)) → AllByRecursion IsLabel labels → 2 * length labels ≤ length (labels_wire labels)
two_each [] all = omega arith
two_each (label ∷ labels) all = omega (arith, all.0.0, two_each labels all.1, length-append label (labels_wire labels))

-- a name has at most 127 labels before the root
pub few_labels : (labels : List (List ℕ)) → IsName labels → length labels ≤ 127
few_labels labels is = omega (arith, two_each labels is.sizes, is.size, length-append (labels_wire labels) (0 ∷ []))
