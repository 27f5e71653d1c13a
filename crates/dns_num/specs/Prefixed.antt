-- Data after the number of their octets.
use Rattle.std.specs.Prelude.{◌≡◌, ◌≤◌, ◌<◌, ◌^◌, ℕ, ◌+◌, ◌++◌, length, take, drop, Option, Some, None, nat_lt, if◌then◌else◌}
use Rattle.std.specs.Int.{Width, byte_len, to_be_bytes}
use Rattle.dns_wire.specs.Octets.{Octets}
use Rattle.dns_wire.specs.Reading.{number, octets, all_of, all_at, plain_at}
use Rattle.dns_wire.specs.Steps.{◌>>=◌}

-- these octets, after their number
abbrev pub sized : Width → Octets → Octets
sized w content = to_be_bytes w (length content) ++ content

-- what the grammar reads from exactly the octets that the number at the start counts, and the octets after them
unfoldable pub prefixed : {Y : Type 0} → Width → (Octets → Option (Y × Octets)) → Octets → Option (Y × Octets)
prefixed w grammar bytes = do
  (size, after_size) ← number w bytes
  (content, rest) ← octets size after_size
  value ← all_of (grammar content)
  Some (value, rest)

-- ---- at a place in the contents of a message

-- what the grammar reads from a place up to an end, after which it sees nothing; `None` if that lies after the contents
abbrev pub all_up_to : {Y : Type 0} → (Octets → ℕ → Option (Y × ℕ)) → Octets → ℕ → ℕ → Option Y
all_up_to grammar contents start end =
    if nat_lt (length contents) end then None else all_at (take end contents) (grammar (take end contents) start)

-- what the grammar reads from exactly the octets that the number at the place counts, and where they end
unfoldable pub prefixed_at : {Y : Type 0} → Width → (Octets → ℕ → Option (Y × ℕ)) → Octets → ℕ → Option (Y × ℕ)
prefixed_at w grammar contents at = do
  (size, start) ← plain_at (number w) contents at
  value ← all_up_to grammar contents start (start + size)
  Some (value, start + size)

-- ---- in words

-- At a place there are as many octets as the number before them says, up to the end, and the value is what the
-- grammar reads from just these, seeing nothing after them.
pub record PrefixedAt {Y : Type 0} (w : Width) (grammar : Octets → ℕ → Option (Y × ℕ)) (contents : Octets) (at : ℕ) (value : Y) (end : ℕ) : Type 0 where
  pub count : ℕ
  pub few : count < 256 ^ byte_len w
  pub number : take (byte_len w) (drop at contents) ≡ to_be_bytes w count
  pub end_is : end ≡ at + byte_len w + count
  pub within : end ≤ length contents
  pub content : all_at (take end contents) (grammar (take end contents) (at + byte_len w)) ≡ Some value
