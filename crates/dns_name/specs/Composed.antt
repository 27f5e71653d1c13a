-- The orders of names by their octets (RFC 4034 section 6.3).
use Rattle.std.specs.Ordering.{nat_cmp}
use Rattle.std.specs.Cmp.Lexicographic.{slice_cmp}
use Rattle.std.specs.declared.cmp.Ordering.{Ordering}
use Rattle.dns_wire.specs.Octets.{Octets, Labels}
use Rattle.dns_wire.specs.Names.{wire, lowered}

-- octets from the first on; a proper prefix comes first
abbrev pub octets_cmp : Octets → Octets → Ordering
octets_cmp = slice_cmp nat_cmp

-- names by their octets
abbrev pub composed_cmp : Labels → Labels → Ordering
composed_cmp a b = octets_cmp (wire a) (wire b)

-- names by their octets in lowercase
abbrev pub lowercase_composed_cmp : Labels → Labels → Ordering
lowercase_composed_cmp a b = octets_cmp (wire (lowered a)) (wire (lowered b))
