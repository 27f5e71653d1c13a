-- Rows beside those of the one table.
use Rattle.std.specs.Prelude.{ℕ, List, [], ◌∷◌}
use Rattle.std.specs.Int.{w32}
use Rattle.dns_record.specs.Kinds.{Kind}
use Rattle.dns_record.specs.Kinds.Kind.{Byte, Number, FixedOctets}

-- ZONEMD (RFC 8976 section 2.2) with a digest of that many octets: serial, scheme, hash algorithm, and the digest
abbrev pub format_zonemd_of : ℕ → List Kind
format_zonemd_of size = Number w32 ∷ Byte ∷ Byte ∷ FixedOctets size ∷ []
