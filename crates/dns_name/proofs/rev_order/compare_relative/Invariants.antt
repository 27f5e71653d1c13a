use Rattle.std.proofs.Common.{◌≡◌, length}
use Rattle.dns_wire.specs.Agreement.{agreeing_prefix}
use Rattle.dns_wire.specs.Names.{lowered}
use Rattle.dns_wire.specs.Reversed.{relative_labels}
use Rattle.dns_name.specs.Order.{key_cmp}
use Rattle.dns_name.proofs.rev_order.compare_relative.Given as goal

-- the labels before these are the same
abbrev pub invariant-loop-label : goal.invariant-loop-label
invariant-loop-label l = record {
  same : key_cmp (lowered (relative_labels l.a.slice.now)) (lowered (relative_labels l.b.slice.now)) ≡ key_cmp (lowered (relative_labels l.left.slice.now)) (lowered (relative_labels l.right.slice.now));
  agreed : l.agreed ≡ agreeing_prefix l.left.slice.now l.right.slice.now;
}

abbrev pub decreases-loop-label : goal.decreases-loop-label
decreases-loop-label l = length (relative_labels l.left.slice.now)
