-- Character strings: at most 255 octets, which come on the wire after an octet with their number (RFC 1035 section 3.3).
-- `text` of `Kinds` reads them.
use Rattle.std.specs.Prelude.{◌<◌, Bool, ◌∷◌, length, drop, nat_eq}
use Rattle.std.specs.Cmp.Lexicographic.{pointwise}
use Rattle.std.specs.Str.{str_to_ascii_lowercase}
use Rattle.dns_wire.specs.Octets.{Octets}

-- octets that a string may have
abbrev pub FitsCharacterString : Octets → Type 0
FitsCharacterString octets = length octets < 256

-- a string on the wire: the number of its octets, and the octets
abbrev pub charstr_wire : Octets → Octets
charstr_wire octets = length octets ∷ octets

-- the octets of a string that is on the wire
abbrev pub octets_of : Octets → Octets
octets_of wire = drop 1 wire

-- octet by octet the same, in lowercase (RFC 1035 section 2.3.3)
abbrev pub same_charstr : Octets → Octets → Bool
same_charstr a b = pointwise nat_eq (str_to_ascii_lowercase a) (str_to_ascii_lowercase b)
