use Rattle.std.proofs.Common.{arith, refl}
use Rattle.dns_zonemd.proofs.verdict.count_kind.Goals as goal

pub loop-other-init : goal.loop-other-init
loop-other-init c = record { few = omega arith; counted = refl }

pub overflow_add-count : goal.overflow_add-count
overflow_add-count c = omega (arith, c.loop-other.invariant.few, c.loop-other-test.true, c.loop-other.auto.other-index-end)
