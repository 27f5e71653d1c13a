use Rattle.std.proofs.Common.{arith, ap, ◌∙◌}
use Rattle.dns_canon.specs.Parts.{before_lf, after_lf}
use Rattle.dns_canon.proofs.Parting.{parts_at, parts_without}
use Rattle.dns_canon.proofs.parts.parted.Goals as goal
use Rattle.dns_canon.proofs.parts.parted.Goals.{then-loop-end-test+else-solid-end-ne10, else-loop-end-test}

pub returns-then-end-solid-clause-first : goal.returns-then-end-solid-clause-first
returns-then-end-solid-clause-first c = elim c.loop-end-test.branch [
  | then-loop-end-test+else-solid-end-ne10 w ↦
      (parts_at c.trimmed-solid.result.now c.loop-end.end c.if-end-solid.true c.loop-end.invariant.none w.if-solid-end-ne10.false).0 ∙ ap before_lf c.trimmed-solid.ensures
  | else-loop-end-test w ↦ absurd (omega (arith, c.if-end-solid.true, w.loop-end-test.false))
]

pub returns-then-end-solid-clause-second : goal.returns-then-end-solid-clause-second
returns-then-end-solid-clause-second c = elim c.loop-end-test.branch [
  | then-loop-end-test+else-solid-end-ne10 w ↦
      (parts_at c.trimmed-solid.result.now c.loop-end.end c.if-end-solid.true c.loop-end.invariant.none w.if-solid-end-ne10.false).1 ∙ ap after_lf c.trimmed-solid.ensures
  | else-loop-end-test w ↦ absurd (omega (arith, c.if-end-solid.true, w.loop-end-test.false))
]

pub returns-else-end-solid-clause-first : goal.returns-else-end-solid-clause-first
returns-else-end-solid-clause-first c =
    (parts_without c.trimmed-solid.result.now c.loop-end.end c.if-end-solid.false c.loop-end.invariant.none).0 ∙ ap before_lf c.trimmed-solid.ensures

pub returns-else-end-solid-clause-second : goal.returns-else-end-solid-clause-second
returns-else-end-solid-clause-second c =
    (parts_without c.trimmed-solid.result.now c.loop-end.end c.if-end-solid.false c.loop-end.invariant.none).1 ∙ ap after_lf c.trimmed-solid.ensures
