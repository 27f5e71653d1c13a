-- Octets as text.
use Rattle.std.specs.Prelude.{ℕ, [], Option, Some, None, if◌then◌else◌}
use Rattle.std.specs.Str.{is_utf8}
use Rattle.dns_wire.specs.Octets.{Octets}

-- all the octets, if they are UTF-8
abbrev pub text : Octets → Option (Octets × Octets)
text bytes = if is_utf8 bytes then Some (bytes, []) else None

-- the octet of a backslash, which begins an escape
abbrev pub backslash_octet : ℕ
backslash_octet = 92
