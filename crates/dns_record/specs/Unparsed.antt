-- Record data that are kept unchanged.
use Rattle.std.specs.Prelude.{ℕ, length, drop, Option, Some, None, nat_lt, if◌then◌else◌}
use Rattle.dns_wire.specs.Octets.{Octets}

-- all the octets, if a record's size can say how many they are (RFC 1035 section 3.2.1)
abbrev pub few : Octets → Option Octets
few bytes = if nat_lt 65535 (length bytes) then None else Some bytes

-- the same from a place to the end of the contents
abbrev pub few_in : Octets → ℕ → Option Octets
few_in contents at = if nat_lt (length contents) at then None else few (drop at contents)
