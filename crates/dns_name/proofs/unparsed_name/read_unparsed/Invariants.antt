use Rattle.std.proofs.Common.{length, ◌-◌}
use Rattle.dns_wire.proofs.Walk.{Walked}
use Rattle.dns_name.proofs.unparsed_name.read_unparsed.Given as goal

-- labels are before the place
abbrev pub invariant-loop-at : goal.invariant-loop-at
invariant-loop-at l = Walked l.bytes l.at

abbrev pub decreases-loop-at : goal.decreases-loop-at
decreases-loop-at l = length l.bytes - l.at
