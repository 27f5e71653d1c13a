use Rattle.dns_wire.specs.Agreement.{agreeing_end}
use Rattle.std.proofs.Common.{take, arith, ◌≡◌, ◌≤◌, ◌+◌, ◌-◌, length, ◌∙◌, sym}
use Rattle.dns_wire.proofs.Agreeing.{end_from, end_left, end_right, end_differs}
use Rattle.std.proofs.lemmas.Bool.{eqb-false}
use Rattle.dns_wire.proofs.agreement.agreement_from_end.Goals as goal
use Rattle.dns_wire.proofs.agreement.agreement_from_end.Goals.{then-loop-left-test+then-right-gt0+else-eq_ignore_ascii_case, then-a-left, else-a-left, then-loop-left-test+else-right-gt0, else-loop-left-test}

pub loop-left-init : goal.loop-left-init
loop-left-init c =
    let n = c.pass_equal_back-same.result in
    let w = c.pass_equal_back-same.ensures.within in
    let left : length c.args.a.now - n ≤ length c.args.a.now = omega arith in
    let b : length c.args.b.now + (length c.args.a.now - n) ≡ length c.args.a.now + (length c.args.b.now - n) = omega (arith, w) in
    record { a = left; b = b; same = end_from (length c.args.a.now - n) (length c.args.b.now - n) c.args.a.now c.args.b.now left c.pass_equal_back-same.ensures.same }

pub returns : goal.returns
returns c =
    let rest : agreeing_end (take c.loop-left.left c.args.a.now) (take c.loop-left.right c.args.b.now) ≡ 0 = (elim c.loop-left-test.branch [
      | then-loop-left-test+then-right-gt0+else-eq_ignore_ascii_case w ↦ (elim w.if-a-left.branch [
        | then-a-left w' ↦ absurd (eqb-false _ _ (sym w'.value-is ∙ w.if-eq_ignore_ascii_case.false) w'.if-a-left.true)
        | else-a-left w' ↦ end_differs c.loop-left.left c.loop-left.right c.args.a.now c.args.b.now (omega (arith, w.loop-left-test.true)) c.loop-left.invariant.a (omega (arith, w.if-right-gt0.true)) (omega (arith, c.loop-left.invariant.b, c.loop-left.invariant.a)) (sym w'.eq_ignore_ascii_case.ensures ∙ sym w'.value-is ∙ w.if-eq_ignore_ascii_case.false)
      ])
      | then-loop-left-test+else-right-gt0 w ↦ end_right (take c.loop-left.left c.args.a.now) c.args.b.now c.loop-left.right (omega (arith, w.if-right-gt0.false))
      | else-loop-left-test w ↦ end_left c.args.a.now (take c.loop-left.right c.args.b.now) c.loop-left.left (omega (arith, w.loop-left-test.false))
    ]) in
    omega (arith, rest, c.loop-left.invariant.same)
