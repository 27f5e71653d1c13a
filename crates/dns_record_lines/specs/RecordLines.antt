-- A line for a record. The order of lines as octets is the canonical order of records (RFC 4034 section 6).
use Rattle.std.specs.Prelude.{◌≡◌, ◌≢◌, ◌<◌, ◌^◌, ℕ, ◌∷◌, ◌++◌, flat_map, length, reverse}
use Rattle.std.specs.Int.{w16, w32, to_be_bytes}
use Rattle.dns_wire.specs.Names.{IsName, lowered}
use Rattle.dns_wire.specs.Octets.{Octets}
use Rattle.dns_wire.specs.Reading.{AreOctets}
use Rattle.dns_record.specs.Types.{opt_number}
use Rattle.dns_text.specs.Hexadecimal.{shown}
use Rattle.dns_message.specs.Forms.{form_owner_key}
use Rattle.dns_message.specs.Order.{SortKey}

-- a space, which is below each digit: so what is the front of other octets comes before them
abbrev pub space : ℕ
space = 32

-- octets in hexadecimal digits, in lowercase
abbrev pub digits : Octets → Octets
digits octets = flat_map shown octets

-- octets in digits, a space, and what follows
abbrev pub field : Octets → Octets → Octets
field octets rest = digits octets ++ space ∷ rest

-- the class and the type, in two octets each
abbrev pub class_and_type : SortKey → Octets
class_and_type k = to_be_bytes w16 k.class ++ to_be_bytes w16 k.rtype

-- The line for a record: the key of its owner, its class and its type, the canonical octets of its data, and its TTL in four octets. A space is
-- between two of the four.
unfoldable pub record_line : SortKey → Octets
record_line k = field (form_owner_key k) (field (class_and_type k) (field k.octets (digits (to_be_bytes w32 k.ttl))))

-- The canonical form of a record of another type than OPT: the owner is a name in lowercase, numbers and data fit their octets, and all are
-- octets (RFC 1035 section 3.2.1).
pub record IsRecord (k : SortKey) : Type 0 where
  pub owner : IsName (reverse k.owner)
  pub lowercase : lowered k.owner ≡ k.owner
  pub key : AreOctets (form_owner_key k)
  pub class : k.class < 2 ^ 16
  pub rtype : k.rtype < 2 ^ 16
  pub not_opt : k.rtype ≢ opt_number
  pub size : length k.octets < 2 ^ 16
  pub octets : AreOctets k.octets
  pub ttl : k.ttl < 2 ^ 32

-- a line is that of a record
abbrev pub IsLineOf : Octets → SortKey → Type 0
IsLineOf line k = IsRecord k × (line ≡ record_line k)
