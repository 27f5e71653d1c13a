-- The octets of options (RFC 6891 section 6.1.2).
use Rattle.std.specs.Prelude.{ℕ, [], ◌++◌, Option, Some}
use Rattle.std.specs.Int.{w16, to_be_bytes}
use Rattle.dns_wire.specs.Octets.{Octets}
use Rattle.dns_num.specs.Prefixed.{sized}

-- all the octets
abbrev pub everything : Octets → Option (Octets × Octets)
everything bytes = Some (bytes, [])

-- the octets of an option: its code, and its data after their size
abbrev pub option_octets : ℕ → Octets → Octets
option_octets code content = to_be_bytes w16 code ++ sized w16 content
