-- Octets as hexadecimal text (RFC 4648 section 8).
use Rattle.std.specs.Prelude.{ℕ, ◌/◌, ◌%◌, true, [], ◌∷◌}
use Rattle.std.specs.Fmt.{digit_glyph}
use Rattle.dns_wire.specs.Octets.{Octets}

-- the two digits of an octet, in capitals
abbrev pub capital_digits : ℕ → Octets
capital_digits octet = digit_glyph true (octet / 16) ∷ digit_glyph true (octet % 16) ∷ []
