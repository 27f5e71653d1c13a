-- Names to which pointers of a message lead, each read once.
use Rattle.std.specs.Prelude.{◌≡◌, ◌≤◌, ℕ, length, take, IfSome, Some}
use Rattle.std.specs.List.{All}
use Rattle.dns_wire.specs.Octets.{Octets, Labels}
use Rattle.dns_wire.specs.Names.{IsName, lowered, wire}
use Rattle.dns_wire.specs.Pointers.{name_at}
use Rattle.dns_message.specs.OwnerKeys.{owner_key}
use Rattle.dns_message.specs.declared.known_names.KnownName.{KnownName}
use Rattle.dns_message.specs.declared.known_names.KnownNames.{KnownNames}

-- these are the octets of the labels in lowercase, and the key of them if there is one
abbrev pub Holds : KnownName → Labels → Type 0
Holds name labels = IsName labels × (name.size ≡ length (wire labels)) × (take name.size name.octets ≡ wire (lowered labels)) × IfSome name.key (λ key. take name.size key ≡ owner_key labels)

-- the name is read at the target, in no more octets of the contents than those before its bound
abbrev pub IsKnown : Octets → ℕ → KnownName → Type 0
IsKnown contents target name = (name.bound ≤ length contents) × (labels : Labels) × (later : ℕ) × (name_at (take name.bound contents) target ≡ Some (labels, later)) × Holds name labels

-- each name is the one at its target
abbrev pub KnowsNames : Octets → KnownNames → Type 0
KnowsNames contents known = All (λ name. IsKnown contents name.target name) known.names.items
