use Rattle.std.proofs.Common.{arith, refl, ◌≡◌, ◌+◌, ◌-◌}
use Rattle.std.specs.Prelude.{slice_index}
use Rattle.dns_wire.proofs.Backward.{reversed_is, reversed_size}
use Rattle.dns_wire.proofs.Reversing.{turning_none, turning_room, turning_next, turning_done}
use Rattle.dns_wire.proofs.compression.reverse.reverse_name.Goals as goal

pub overflow_sub-end : goal.overflow_sub-end
overflow_sub-end c = (reversed_size _ _ c.requires.name).some

pub copy_at-requires : goal.copy_at-requires
copy_at-requires c = omega (arith, c.requires.size, (reversed_size _ _ c.requires.name).some)

pub loop-at-init : goal.loop-at-init
loop-at-init c = turning_none _ _ _ _ (reversed_is _ _ c.requires.name).1 c.requires.size c.copy_at.ensures.exact

pub overflow_sub-end-in-loop-at : goal.overflow_sub-end-in-loop-at
overflow_sub-end-in-loop-at c = (turning_room _ _ _ _ _ c.loop-at.invariant c.loop-at-test.true).1

pub slice_bounds-copy_at-end-in-loop-at : goal.slice_bounds-copy_at-end-in-loop-at
slice_bounds-copy_at-end-in-loop-at c = (turning_room _ _ _ _ _ c.loop-at.invariant c.loop-at-test.true).0

pub loop-at-preserved : goal.loop-at-preserved
loop-at-preserved c =
    let size : c.loop-at.at + (1 + slice_index c.args.name.now c.loop-at.at) - c.loop-at.at ≡ 1 + slice_index c.args.name.now c.loop-at.at = omega arith in
    turning_next _ _ _ _ _ c.loop-at.invariant _ _ c.loop-at-test.true refl (rw size at c.copy_at-in-loop-at.ensures.exact)

pub returns : goal.returns
returns c = turning_done _ _ _ _ _ c.loop-at.invariant (omega arith)
