use Rattle.std.proofs.Common.{arith}
use Rattle.dns_wire.proofs.MatchingNames.{counting_none, counting_bad, counting_root, counting_full, counting_label, counting_pointer}
use Rattle.dns_wire.proofs.compression.suffix.count_labels_at.Goals as goal

pub loop-seen-init : goal.loop-seen-init
loop-seen-init c = rw c.new-cursor.ensures (counting_none _ _ _)

pub returns-in-Err-clause-exact : goal.returns-in-Err-clause-exact
returns-in-Err-clause-exact c = counting_bad _ _ _ _ _ _ c.requires c.loop-seen.invariant c.in-Err.ensures.exact

pub returns-in-Ok-Root-clause-exact : goal.returns-in-Ok-Root-clause-exact
returns-in-Ok-Root-clause-exact c = counting_root _ _ _ _ _ _ c.requires c.loop-seen.invariant (rw c.in-Ok-Root.field-0-is at c.in-Ok-Root.ensures.exact)

pub returns-then-seen-most-clause-exact : goal.returns-then-seen-most-clause-exact
returns-then-seen-most-clause-exact c = counting_full _ _ _ _ _ _ c.requires c.loop-seen.invariant _ (rw c.in-Ok-Label.field-0-is at c.in-Ok-Label.ensures.exact) (omega arith)

pub loop-seen-preserved-in-Ok-Label : goal.loop-seen-preserved-in-Ok-Label
loop-seen-preserved-in-Ok-Label c = rw (rw c.in-Ok-Label.field-0-is at c.in-Ok-Label.ensures.moves) (counting_label _ _ _ _ _ _ c.requires c.loop-seen.invariant _ (rw c.in-Ok-Label.field-0-is at c.in-Ok-Label.ensures.exact) c.if-seen-most.false)

pub loop-seen-preserved : goal.loop-seen-preserved
loop-seen-preserved c = rw (rw c.in-Ok-Pointer.field-0-is at c.in-Ok-Pointer.ensures.moves) (counting_pointer _ _ _ _ _ _ c.requires c.loop-seen.invariant _ (rw c.in-Ok-Pointer.field-0-is at c.in-Ok-Pointer.ensures.exact) (rw c.in-Ok-Pointer.field-0-is at c.in-Ok-Pointer.ensures.fits).1)
