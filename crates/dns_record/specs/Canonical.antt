-- The order of record data (RFC 4034 section 6.3).
use Rattle.std.specs.Prelude.{ℕ}
use Rattle.std.specs.declared.cmp.Ordering.{Ordering}
use Rattle.std.specs.Ordering.{nat_cmp, ordering_then}
use Rattle.std.specs.Cmp.Lexicographic.{slice_cmp}
use Rattle.dns_wire.specs.Octets.{Octets}

-- by rank, and if ranks are equal by octets, of which a beginning comes first
abbrev pub ranked_cmp : ℕ → ℕ → Octets → Octets → Ordering
ranked_cmp rank other octets others = ordering_then (nat_cmp rank other) (slice_cmp nat_cmp octets others)
