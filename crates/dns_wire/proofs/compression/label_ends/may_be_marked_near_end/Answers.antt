use Rattle.std.proofs.Common.{arith, refl}
use Rattle.std.specs.Prelude.{slice_index}
use Rattle.dns_wire.proofs.LabelEnds.{class_there, passed_over}
use Rattle.dns_wire.proofs.compression.label_ends.may_be_marked_near_end.Goals as goal

pub returns-clause-passed : goal.returns-clause-passed
returns-clause-passed c = λ unmarked labels all.
    passed_over _ _ _ _ _ refl (omega arith) (omega arith) (omega arith) (rw c.class_of.ensures at unmarked) 0 labels all

pub returns-clause-unmarked : goal.returns-clause-unmarked
returns-clause-unmarked c = λ u.
    let class = class_there c.args.contents.now c.args.place (slice_index c.args.contents.now c.args.place) c.args.back refl (omega arith) (omega arith) in
    rw (c.class_of.ensures, ← class, u.3) refl
