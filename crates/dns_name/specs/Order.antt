-- The order of names: by labels from the root on, each by its lowered octets (RFC 4034 section 6.1).
use Rattle.std.specs.Prelude.{reverse}
use Rattle.std.specs.Ordering.{nat_cmp}
use Rattle.std.specs.Cmp.Lexicographic.{slice_cmp}
use Rattle.std.specs.declared.cmp.Ordering.{Ordering}
use Rattle.dns_wire.specs.Octets.{Octets, Labels}
use Rattle.dns_wire.specs.Names.{name_labels, lowered}

-- the labels from the root on, lowered
abbrev pub key : Labels → Labels
key labels = reverse (lowered labels)

-- keys label by label, and labels octet by octet; a proper prefix comes first
abbrev pub key_cmp : Labels → Labels → Ordering
key_cmp = slice_cmp (slice_cmp nat_cmp)

-- the key of a name's octets
abbrev pub key_of : Octets → Labels
key_of bytes = key (name_labels bytes)
