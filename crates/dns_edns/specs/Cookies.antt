-- The octets of cookies (RFC 7873 section 4, RFC 9018 section 4).
use Rattle.std.specs.Prelude.{◌≡◌, ◌≢◌, ◌⊎◌, ℕ, [], ◌∷◌, ◌++◌, length, take, drop, slice_index, Option, Some, None, nat_lt, ◌||◌, if◌then◌else◌}
use Rattle.std.specs.Int.{w32, to_be_bytes, from_be_bytes}
use Rattle.std.specs.declared.cmp.Ordering.TheVariants.{Less, Equal}
use Rattle.dns_wire.specs.Octets.{Octets}
use Rattle.dns_record.specs.Serials.{serial_cmp}

-- a client cookie of 8 octets, and a server cookie of 8 to 32
abbrev pub cookie : Octets → Option (Octets × Octets)
cookie bytes = if nat_lt (length bytes) 16 || nat_lt 40 (length bytes) then None else Some (bytes, [])

-- the client cookie before
abbrev pub request_in : Octets → Octets
request_in octets = take 8 octets

-- the version of the server cookie
abbrev pub version_in : Octets → ℕ
version_in octets = slice_index octets 8

-- when the server cookie was made
abbrev pub timestamp_in : Octets → ℕ
timestamp_in octets = from_be_bytes w32 (take 4 (drop 12 octets))

-- the hash after it
abbrev pub hash_in : Octets → Octets
hash_in octets = drop 16 octets

-- ---- what a server gives and takes (RFC 9018 section 4)

-- what comes before the hash: the cookie of the client, version 1, three zeros and the time
abbrev pub unhashed : Octets → ℕ → Octets
unhashed client time = client ++ 1 ∷ 0 ∷ 0 ∷ 0 ∷ to_be_bytes w32 time

-- the cookie that a server gives to an address: the hash is that of the octets before, and of the address
abbrev pub response : (Octets → Octets) → Octets → ℕ → Octets → Octets
response hash client time address = unhashed client time ++ hash (unhashed client time ++ address)

-- from one moment up to before another (RFC 1982 section 3.2)
pub record IsWithin (from until time : ℕ) : Type 0 where
  pub since : (serial_cmp from time ≡ Some Less) ⊎ (serial_cmp from time ≡ Some Equal)
  pub before : serial_cmp time until ≡ Some Less

-- a cookie that a server takes from an address, made from one moment up to before another
pub record IsTaken (hash : Octets → Octets) (address : Octets) (from until : ℕ) (octets : Octets) : Type 0 where
  pub version : version_in octets ≡ 1
  pub size : length (hash_in octets) ≡ 8
  pub moment : IsWithin from until (timestamp_in octets)
  pub hashed : hash (take 16 octets ++ address) ≡ hash_in octets

-- and a cookie that it refuses: it has one of four causes
pub data IsRefused (hash : Octets → Octets) (address : Octets) (from until : ℕ) (octets : Octets) : Type 0 where
  OtherVersion : version_in octets ≢ 1 → IsRefused hash address from until octets
  OtherSize : length (hash_in octets) ≢ 8 → IsRefused hash address from until octets
  OtherMoment : ¬ IsWithin from until (timestamp_in octets) → IsRefused hash address from until octets
  OtherHash : hash (take 16 octets ++ address) ≢ hash_in octets → IsRefused hash address from until octets
