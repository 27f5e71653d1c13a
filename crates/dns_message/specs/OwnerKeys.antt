-- Keys of owners: octets that are in the order of the owners (RFC 4034 section 6.1).
use Rattle.std.specs.Prelude.{◌≡◌, ℕ, ◌+◌, ◌-◌, [], ◌∷◌, if◌then◌else◌, ltb, map, flat_map, reverse}
use Rattle.std.specs.Char.{to_ascii_lowercase}
use Rattle.dns_wire.specs.Names.{IsName, lowered}
use Rattle.dns_wire.specs.Octets.{Octets, Labels}

-- an octet of a label: in lowercase, and those below `A` one higher, so that 0 is left for the beginning of a label
abbrev pub key_octet : ℕ → ℕ
key_octet octet = if ltb octet 65 then octet + 1 else to_ascii_lowercase octet

-- a label and its beginning
abbrev pub label_key : Octets → Octets
label_key label = 0 ∷ map key_octet label

-- labels one after another
abbrev pub labels_key : Labels → Octets
labels_key labels = flat_map label_key labels

-- the labels from the root's on
abbrev pub owner_key : Labels → Octets
owner_key labels = labels_key ([] ∷ reverse labels)

-- the key is that of an owner, a name in lowercase
pub record IsKeyOf (key : Octets) (owner : Labels) : Type 0 where
  pub name : IsName owner
  pub lowercase : lowered owner ≡ owner
  pub key_is : key ≡ owner_key owner

-- the octet in lowercase that an octet of a key is for
abbrev pub lowercase_octet : ℕ → ℕ
lowercase_octet octet = if ltb 65 octet then octet else octet - 1
