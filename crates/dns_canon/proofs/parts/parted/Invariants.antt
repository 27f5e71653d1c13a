use Rattle.std.proofs.Common.{◌≤◌, ◌-◌, length}
use Rattle.dns_canon.proofs.Parting.{NoneBefore}
use Rattle.dns_canon.proofs.parts.parted.Given as goal

-- no LF has been passed
abbrev pub invariant-loop-end : goal.invariant-loop-end
invariant-loop-end l = record { within : l.end ≤ length l.solid; none : NoneBefore l.solid l.end }

abbrev pub decreases-loop-end : goal.decreases-loop-end
decreases-loop-end l = length l.solid - l.end
