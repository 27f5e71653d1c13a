use Rattle.std.proofs.Common.{length, ◌-◌}
use Rattle.dns_name.proofs.Turned.{Turned}
use Rattle.dns_name.proofs.relative_name.RelativeName.put_reversed.Given as goal

-- the labels before the place are in the buffer
abbrev pub invariant-loop-at : goal.invariant-loop-at
invariant-loop-at l = Turned l.self.slice.now l.fn.bytes l.end l.at l.bytes

abbrev pub decreases-loop-at : goal.decreases-loop-at
decreases-loop-at l = length l.self.slice.now - l.at
