use Rattle.std.proofs.Common.{◌+◌, ◌-◌, ◌≤◌, ◌∙◌, ap, arith, drop, length, length-drop, rules, take_all, ℕ}
use Rattle.dns_wire.specs.Names.{name_labels}
use Rattle.dns_denial.proofs.Signatures.{next_rest}
use Rattle.dns_denial.proofs.signed.after_labels.Goals as goal

pub slice_bounds-rest-count : goal.slice_bounds-rest-count
slice_bounds-rest-count c =
    let next = next_rest (name_labels c.args.name.now) c.loop-passed._passed c.loop-passed.rest.now (omega (arith, c.loop-passed-test.true, c.requires.few)) c.loop-passed.invariant in
    omega (arith, next.1, c.from.ensures)

pub slice_bounds-rest-start : goal.slice_bounds-rest-start
slice_bounds-rest-start c =
    let next = next_rest (name_labels c.args.name.now) c.loop-passed._passed c.loop-passed.rest.now (omega (arith, c.loop-passed-test.true, c.requires.few)) c.loop-passed.invariant in
    let within : 1 + c.from.result ≤ length c.loop-passed.rest.now = omega (arith, next.1, c.from.ensures) in
    search (rules, within)

pub loop-passed-preserved : goal.loop-passed-preserved
loop-passed-preserved c =
    let next = next_rest (name_labels c.args.name.now) c.loop-passed._passed c.loop-passed.rest.now (omega (arith, c.loop-passed-test.true, c.requires.few)) c.loop-passed.invariant in
    let start = 1 + c.from.result in
    take_all (length c.loop-passed.rest.now - start) (drop start c.loop-passed.rest.now) (omega (arith, length-drop start c.loop-passed.rest.now))
    ∙ ap (λ (n : ℕ). drop (1 + n) c.loop-passed.rest.now) c.from.ensures ∙ next.2
