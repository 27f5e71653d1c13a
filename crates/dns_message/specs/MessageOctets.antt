-- Messages as octets.
use Rattle.dns_wire.specs.Octets.{Octets}
use Rattle.dns_wire.specs.declared.sizes.TheConstants.{HEADER_SIZE}
use Rattle.std.proofs.Common.{◌≡◌, Bool, true, false, cond, [], length, Option, Some, None, sym}
use Rattle.std.specs.Prelude.{nat_lt, if◌then◌else◌}
use Rattle.std.proofs.lemmas.Option.{some_pair_parts}
use Rattle.dns_wire.specs.ReadingLemmas.{nothing_follows}
use Rattle.dns_wire.specs.Reading.{Follows, LeavesRest}

-- all the octets, if they have a header
abbrev pub whole_message : Octets → Option (Octets × Octets)
whole_message bytes = if nat_lt (length bytes) HEADER_SIZE then None else Some (bytes, [])

long_enough : (b : Bool) (bytes found rest : Octets) → ◌≡◌ {A = Option (Octets × Octets)} (cond b None (Some (bytes, []))) (Some (found, rest)) → Follows rest bytes
long_enough true bytes found rest e = absurd cc
long_enough false bytes found rest e = nothing_follows bytes rest (sym (some_pair_parts bytes found [] rest e).1)

pub whole_message_leaves : LeavesRest whole_message
whole_message_leaves bytes found rest e = long_enough (nat_lt (length bytes) HEADER_SIZE) bytes found rest e
