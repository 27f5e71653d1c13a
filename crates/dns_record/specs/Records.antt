-- Records, whatever their owners and their data are (RFC 1035 section 4.1.3).
use Rattle.std.specs.Prelude.{◌≡◌, ℕ, ◌+◌, ◌-◌, ◌<◌, ◌^◌, ◌++◌, length, take, Option, Some}
use Rattle.std.specs.Int.{w16, w32, to_be_bytes}
use Rattle.dns_wire.specs.Octets.{Octets}
use Rattle.dns_wire.specs.Reading.{octets, number, plain_at}
use Rattle.dns_wire.specs.Steps.{◌>>=◌}

pub record RecordOf (N D : Type 0) : Type 0 where
  pub owner : N
  pub rtype : ℕ
  pub class : ℕ
  pub ttl : ℕ
  pub content : D

-- what follows a record's owner: a type, a class, a time to live, and the octets of the data
pub record Parts : Type 0 where
  pub rtype : ℕ
  pub class : ℕ
  pub ttl : ℕ
  pub content : Octets

-- the record of this owner and these parts, with the data that were read
abbrev pub record_of : {N D : Type 0} → N → Parts → D → RecordOf N D
record_of owner parts content = record { owner = owner; rtype = parts.rtype; class = parts.class; ttl = parts.ttl; content = content }

-- a type, a class, a time to live, a size, and exactly that many octets of data; and what follows them
unfoldable pub parts_at : Octets → Option (Parts × Octets)
parts_at bytes = do
  (rtype, after_type) ← number w16 bytes
  (class, after_class) ← number w16 after_type
  (ttl, after_ttl) ← number w32 after_class
  (size, after_size) ← number w16 after_ttl
  (content, rest) ← octets size after_size
  Some (record { rtype = rtype; class = class; ttl = ttl; content = content }, rest)

-- An owner, and the parts after it, whose data are read for the type. Nothing after the data is seen when they are read.
unfoldable pub record_at : {N D : Type 0} → (Octets → Option (N × Octets)) → (ℕ → Octets → Option D) → Octets → Option (RecordOf N D × Octets)
record_at name data_as bytes = do
  (owner, after_name) ← name bytes
  (parts, rest) ← parts_at after_name
  content ← data_as parts.rtype parts.content
  Some (record_of owner parts content, rest)

-- the same at a place in a message, where the data are read from the place where they begin, in the contents up to their end
unfoldable pub record_in : {N D : Type 0} → (Octets → ℕ → Option (N × ℕ)) → (ℕ → Octets → ℕ → Option D) → Octets → ℕ → Option (RecordOf N D × ℕ)
record_in name data_in contents at = do
  (owner, after_name) ← name contents at
  (parts, end) ← plain_at parts_at contents after_name
  content ← data_in parts.rtype (take end contents) (end - length parts.content)
  Some (record_of owner parts content, end)

-- ---- octets

-- an owner's octets, type, class, time to live, the number of the data's octets, and these octets
abbrev pub octets_of_parts : Octets → ℕ → ℕ → ℕ → Octets → Octets
octets_of_parts owner rtype class ttl octets =
    owner ++ (to_be_bytes w16 rtype ++ (to_be_bytes w16 class ++ (to_be_bytes w32 ttl ++ (to_be_bytes w16 (length octets) ++ octets))))

-- ---- how many octets the data are read from

-- the data are read, for the type, from octets that a size can count
pub record SizedData {D : Type 0} (data_as : ℕ → Octets → Option D) (content : D) (rtype : ℕ) : Type 0 where
  pub body : Octets
  pub short : length body < 2 ^ 16
  pub read : data_as rtype body ≡ Some content

-- the same in a message, up to the record's end
pub record SizedDataIn {D : Type 0} (data_in : ℕ → Octets → ℕ → Option D) (contents : Octets) (content : D) (rtype end : ℕ) : Type 0 where
  pub at : ℕ
  pub short : end < at + 2 ^ 16
  pub read : data_in rtype (take end contents) at ≡ Some content
