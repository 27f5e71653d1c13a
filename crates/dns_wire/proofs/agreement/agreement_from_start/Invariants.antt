use Rattle.std.proofs.Common.{◌≤◌, ◌-◌, length}
use Rattle.dns_wire.specs.Agreement.{agreeing_prefix}
use Rattle.dns_wire.proofs.agreement.agreement_from_start.Given as goal

abbrev pub invariant-loop-at : goal.invariant-loop-at
invariant-loop-at l = record { within : l.at ≤ length l.a; agreed : l.at ≤ agreeing_prefix l.a l.b }

abbrev pub decreases-loop-at : goal.decreases-loop-at
decreases-loop-at l = length l.a - l.at
