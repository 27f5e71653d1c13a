use Rattle.std.proofs.Common.{◌≡◌, ◌≤◌, ◌-◌, ◌+◌, drop, length}
use Rattle.dns_wire.specs.Agreement.{agreeing_prefix}
use Rattle.dns_wire.proofs.agreement.agreement_by_octets.Given as goal

abbrev pub invariant-loop-at : goal.invariant-loop-at
invariant-loop-at l = record { a : l.at ≤ length l.a; b : l.at ≤ length l.b; same : agreeing_prefix l.a l.b ≡ l.at + agreeing_prefix (drop l.at l.a) (drop l.at l.b) }

abbrev pub decreases-loop-at : goal.decreases-loop-at
decreases-loop-at l = length l.a - l.at
