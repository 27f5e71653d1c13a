-- Names in canonical form that are read into a buffer (RFC 4034 section 6.2).
use Rattle.std.specs.Prelude.{◌≡◌, ℕ, ◌<◌, ◌≤◌, ◌+◌, ◌++◌, length, take, Option, Some, None}
use Rattle.dns_wire.specs.Octets.{Octets, Labels}
use Rattle.dns_wire.specs.Names.{IsName, lowered, wire}
use Rattle.dns_wire.specs.Pointers.{name_at}
use Rattle.dns_name.specs.declared.own_labels.OwnLabels.{OwnLabels}
use Rattle.dns_chain.specs.declared.canonical_name.NameSpan.{NameSpan}

-- the name at a place ends there, and the buffer begins with its octets in lowercase
abbrev pub IsReadAs : Octets → ℕ → Octets → NameSpan → Type 0
IsReadAs contents start buffer span = (labels : Labels) × (name_at contents start ≡ Some (labels, span.end)) × IsName labels × (span.size ≡ length (wire labels)) × (take span.size buffer ≡ wire (lowered labels))

-- and there is none exactly if no name is read
abbrev pub IsReadOrNone : Octets → ℕ → Octets → Option NameSpan → Type 0
IsReadOrNone contents start buffer None = name_at contents start ≡ None
IsReadOrNone contents start buffer (Some span) = IsReadAs contents start buffer span

-- ---- a name's own labels: those before its root or its first pointer

-- The name at a place is its own labels, or these and the name where a pointer leads, if one is read there and both together are not too
-- long. What is at the place ends at end.
abbrev pub GoesOn : Octets → ℕ → Labels → ℕ → Option ℕ → Type 0
GoesOn contents start own end None = name_at contents start ≡ Some (own, end)
GoesOn contents start own end (Some target) =
    (target < start) × ((base : Labels) (later : ℕ) → name_at contents target ≡ Some (base, later) → length (wire (own ++ base)) ≤ 255 → name_at contents start ≡ Some (own ++ base, end))

-- the name at a place has these own labels, whose octets in lowercase, and that of a root after them, are first in the buffer
abbrev pub HasOwnLabels : Octets → ℕ → Octets → OwnLabels → Type 0
HasOwnLabels contents start buffer o =
    (own : Labels) × IsName own × (o.size + 1 ≡ length (wire own)) × (take (o.size + 1) buffer ≡ wire (lowered own)) × (start < o.end) × (o.end ≤ length contents) × GoesOn contents start own o.end o.target
