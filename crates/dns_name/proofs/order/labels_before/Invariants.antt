use Rattle.std.proofs.Common.{◌+◌, ◌≤◌, length}
use Rattle.std.specs.Prelude.{option_map, IfSome}
use Rattle.dns_wire.specs.Reversed.{relative_labels}
use Rattle.dns_name.proofs.NameSuffixes.{Walked}
use Rattle.dns_name.proofs.order.labels_before.Given as goal

abbrev pub invariant-loop-left : goal.invariant-loop-left
invariant-loop-left g l = record {
  walked : Walked (relative_labels l.a.slice.now) (relative_labels l.b.slice.now) (relative_labels l.left.slice.now) (relative_labels l.right.slice.now) (option_map (λ s. s.now) l.before) (option_map (λ s. s.now) l.other) l.agreed;
  least : l.fn.steps ≤ l.steps;
  most : l.steps + length l.left.slice.now + length l.right.slice.now ≤ l.fn.steps + length l.a.slice.now + length l.b.slice.now;
  within : length l.left.slice.now ≤ length l.a.slice.now;
  labels : IfSome l.before (λ s. length s.now ≤ length l.a.slice.now);
}

abbrev pub decreases-loop-left : goal.decreases-loop-left
decreases-loop-left g l = length l.left.slice.now + length l.right.slice.now
