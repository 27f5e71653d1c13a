-- The first octets of keys as numbers, by which forms are compared before their keys are.
use Rattle.std.specs.Prelude.{◌≡◌, ◌≤◌, ◌+◌, ◌*◌, ◌^◌, ℕ, zero, suc, [], ◌∷◌, ◌++◌, length, take}
use Rattle.dns_wire.specs.Octets.{Octets}
use Rattle.dns_wire.specs.Names.{lowered}
use Rattle.dns_wire.specs.Reading.{AreOctets}
use Rattle.dns_message.specs.Forms.{form_owner_key}
use Rattle.dns_message.specs.Order.{SortKey}
use Rattle.dns_message.specs.declared.form_order.FrontedForm.{FrontedForm}

-- the number that the first n octets spell, with octets 0 after them if there are fewer
unfoldable pub front : ℕ → Octets → ℕ
front zero octets = 0
front (suc n) [] = 0
front (suc n) (octet ∷ octets) = octet * 256 ^ n + front n octets

-- the key of the owner begins with these octets, which are as many
abbrev pub BeginsWith : Octets → ℕ → SortKey → Type 0
BeginsWith start many k = (many ≤ length (form_owner_key k)) × (take many (form_owner_key k) ≡ start)

-- the number is that of the octets of the key that come after these, and the owner is in lowercase
abbrev pub HasFront : Octets → FrontedForm → Type 0
HasFront start e = (octets : Octets) × (form_owner_key e.form.now ≡ start ++ octets) × AreOctets octets × (e.front ≡ front 8 octets) × (lowered e.form.now.owner ≡ e.form.now.owner)
