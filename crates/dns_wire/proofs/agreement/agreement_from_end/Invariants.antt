use Rattle.std.proofs.Common.{◌≡◌, ◌≤◌, ◌-◌, ◌+◌, take, length}
use Rattle.dns_wire.specs.Agreement.{agreeing_end}
use Rattle.dns_wire.proofs.agreement.agreement_from_end.Given as goal

abbrev pub invariant-loop-left : goal.invariant-loop-left
invariant-loop-left l = record { a : l.left ≤ length l.a; b : length l.b + l.left ≡ length l.a + l.right; same : agreeing_end l.a l.b ≡ (length l.a - l.left) + agreeing_end (take l.left l.a) (take l.right l.b) }

abbrev pub decreases-loop-left : goal.decreases-loop-left
decreases-loop-left l = l.left
