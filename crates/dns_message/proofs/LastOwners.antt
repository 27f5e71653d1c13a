-- The owner that was read last, in canonical form.
use Rattle.std.proofs.Common.{◌≡◌, ℕ, ◌<◌, ◌≤◌, List, length, take, Some, sym, ap, ◌∙◌, arith}
use Rattle.std.specs.Prelude.{reverse}
use Rattle.std.specs.Str.{str_to_ascii_lowercase}
use Rattle.dns_wire.specs.Names.{IsName, lowered, name_labels, plain_name, wire}
use Rattle.dns_wire.specs.Reading.{all_of}
use Rattle.dns_wire.proofs.Following.{name_at_is, segment_ends}
use Rattle.dns_wire.proofs.Lowered.{lower_wire, name_lowered}
use Rattle.dns_wire.proofs.Spelled.{labels_of_wire}
use Rattle.dns_name.specs.Order.{key}
use Rattle.dns_message.specs.OwnerKeys.{owner_key}
use Rattle.dns_message.specs.Owners.{HasOwner, IsCanonicalOwner, WasRead}
use Rattle.dns_message.specs.declared.last_owner.LastOwner.{LastOwner}
use Rattle.dns_message.proofs.FormLemmas.{key_of_lowered}
use Rattle.dns_message.proofs.Whole.{lowered_twice}

-- the octets of an owner are those of a name, whose labels are in lowercase
pub owner_labels : (o : LastOwner) (labels : List (List ℕ)) → HasOwner o labels → name_labels (take o.size o.octets) ≡ lowered labels
owner_labels o labels has = ap name_labels has.2 ∙ (labels_of_wire (lowered labels) (name_lowered labels has.0)).1

pub owner_canonical : (o : LastOwner) (labels : List (List ℕ)) → HasOwner o labels → IsCanonicalOwner (name_labels (take o.size o.octets)) (take o.size o.octets) (take o.size o.key)
owner_canonical o labels has =
    rw (owner_labels o labels has) (name_lowered labels has.0, lowered_twice labels, has.2, has.3 ∙ sym (key_of_lowered labels))

pub owner_short : (o : LastOwner) (labels : List (List ℕ)) → HasOwner o labels → o.size ≤ 255
owner_short o labels has = omega (arith, has.1, has.0.size)

-- the order's key of labels in lowercase is that of the labels
pub lowered_key : (labels : List (List ℕ)) → key (lowered labels) ≡ key labels
lowered_key labels = ap reverse (lowered_twice labels)

-- what was written and read is the owner
pub owner_read : (o : LastOwner) (labels : List (List ℕ)) → IsName labels → o.size ≡ length (wire labels) → take o.size o.octets ≡ wire (lowered labels)
    → take o.size o.key ≡ owner_key (name_labels (take o.size o.octets)) → HasOwner o labels
owner_read o labels is size octets key-is =
    (is, size, octets, key-is ∙ ap owner_key (ap name_labels octets ∙ (labels_of_wire (lowered labels) (name_lowered labels is)).1) ∙ key_of_lowered labels)

-- octets in canonical form are a name's
pub canonical_name : (octets : List ℕ) (labels : List (List ℕ)) → IsName labels → octets ≡ wire (lowered labels) → all_of (plain_name octets) ≡ Some (name_labels octets)
canonical_name octets labels is e =
    let t = labels_of_wire (lowered labels) (name_lowered labels is) in
    ap (λ (l : List ℕ). all_of (plain_name l)) e ∙ t.0 ∙ ap Some (sym (ap name_labels e ∙ t.1))

-- and are in lowercase
pub canonical_lowercase : (octets : List ℕ) (labels : List (List ℕ)) → IsName labels → octets ≡ wire (lowered labels) → str_to_ascii_lowercase octets ≡ octets
canonical_lowercase octets labels is e =
    ap str_to_ascii_lowercase e ∙ lower_wire (lowered labels) (name_lowered labels is).sizes ∙ ap wire (lowered_twice labels) ∙ sym e

-- where an owner ends
pub owner_ends : (contents : List ℕ) (o : LastOwner) → WasRead contents o → o.start < o.end → o.end ≤ length contents
owner_ends contents o was some = let is = was some in (segment_ends contents (name_at_is contents o.start is.0 o.end is.1).reads).1
