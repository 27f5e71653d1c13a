use Rattle.std.proofs.Common.{◌≡◌, ◌≤◌, ◌+◌, take, drop, length}
use Rattle.dns_wire.proofs.agreement.pass_equal_back.Given as goal

abbrev pub invariant-loop-prefix : goal.invariant-loop-prefix
invariant-loop-prefix l = record { a : length l.left ≤ length l.a; b : length l.b + length l.left ≡ length l.a + length l.right; same : drop (length l.left) l.a ≡ drop (length l.right) l.b; left : take (length l.left) l.a ≡ l.left; right : take (length l.right) l.b ≡ l.right }

abbrev pub decreases-loop-prefix : goal.decreases-loop-prefix
decreases-loop-prefix l = length l.left
