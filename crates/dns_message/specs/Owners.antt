-- Owners in canonical form (RFC 4034 section 6.2), and the one that was read last.
use Rattle.std.specs.Prelude.{◌≡◌, ◌<◌, ◌≤◌, ◌+◌, ◌-◌, ℕ, drop, length, take, Option, Some, None}
use Rattle.dns_wire.specs.Octets.{Octets, Labels}
use Rattle.dns_wire.specs.Names.{IsName, lowered, wire}
use Rattle.dns_wire.specs.Pointers.{name_at}
use Rattle.dns_message.specs.OwnerKeys.{owner_key}
use Rattle.dns_message.specs.declared.last_owner.LastOwner.{LastOwner}

-- the octets and the key of a name in lowercase
abbrev pub IsCanonicalOwner : Labels → Octets → Octets → Type 0
IsCanonicalOwner labels octets key = IsName labels × (lowered labels ≡ labels) × (octets ≡ wire labels) × (key ≡ owner_key labels)

-- the last owner is the name
abbrev pub HasOwner : LastOwner → Labels → Type 0
HasOwner o labels = IsName labels × (o.size ≡ length (wire labels)) × (take o.size o.octets ≡ wire (lowered labels)) × (take o.size o.key ≡ owner_key labels)

-- the last owner is the name at the place
abbrev pub IsOwnerAt : Octets → ℕ → ℕ → LastOwner → Type 0
IsOwnerAt contents start end o = (labels : Labels) × (name_at contents start ≡ Some (labels, end)) × HasOwner o labels

-- if an owner was read, it is the name at its place
abbrev pub WasRead : Octets → LastOwner → Type 0
WasRead contents o = o.start < o.end → IsOwnerAt contents o.start o.end o

-- an owner was read, at the place or before it, and its octets are at the place too
abbrev pub IsRepeated : Octets → ℕ → LastOwner → Type 0
IsRepeated contents start o =
    (o.start < o.end) × (o.start ≤ start) × (start + (o.end - o.start) ≤ length contents) × (take (o.end - o.start) (drop start contents) ≡ take (o.end - o.start) (drop o.start contents))

-- what is read as an owner, up to its end
abbrev pub ReadsOwner : Octets → ℕ → Option ℕ → LastOwner → Type 0
ReadsOwner contents start None o = name_at contents start ≡ None
ReadsOwner contents start (Some end) o = WasRead contents o × IsOwnerAt contents start end o
