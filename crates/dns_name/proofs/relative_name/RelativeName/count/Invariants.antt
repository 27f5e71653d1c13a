use Rattle.std.proofs.Common.{◌≡◌, ◌≤◌, ◌+◌, length}
use Rattle.dns_wire.specs.Reversed.{relative_labels}
use Rattle.dns_name.proofs.relative_name.RelativeName.count.Given as goal

abbrev pub invariant-loop-label : goal.invariant-loop-label
invariant-loop-label l = (l.count + length (relative_labels l.rest.slice.now) ≡ length (relative_labels l.self.slice.now)) × (length (relative_labels l.self.slice.now) ≤ 127)

abbrev pub decreases-loop-label : goal.decreases-loop-label
decreases-loop-label l = length (relative_labels l.rest.slice.now)
