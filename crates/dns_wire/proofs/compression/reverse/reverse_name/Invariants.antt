use Rattle.std.proofs.Common.{length, ◌-◌}
use Rattle.dns_wire.specs.Reversed.{reversed_name_labels}
use Rattle.dns_wire.proofs.Reversing.{Turning}
use Rattle.dns_wire.proofs.compression.reverse.reverse_name.Given as goal

abbrev pub invariant-loop-at : goal.invariant-loop-at
invariant-loop-at l = Turning l.name l.forward (reversed_name_labels l.name) l.at l.end

abbrev pub decreases-loop-at : goal.decreases-loop-at
decreases-loop-at l = length l.name - l.at
