use Rattle.std.proofs.Common.{◌≤◌}
use Rattle.dns_message.proofs.form_order.shared_with.Given as goal

abbrev pub invariant-loop-shared : goal.invariant-loop-shared
invariant-loop-shared l = l.shared ≤ l.most

abbrev pub decreases-loop-shared : goal.decreases-loop-shared
decreases-loop-shared l = l.shared
