use Rattle.std.proofs.Common.{arith, ◌≡◌, ◌≤◌, ◌+◌, length, ap, ◌∙◌, sym, drop, ◌++◌}
use Rattle.dns_wire.proofs.Agreeing.{back_left, cut_back, equal_chunks}
use Rattle.dns_wire.proofs.agreement.pass_equal_back.Goals as goal

pub loop-prefix-preserved : goal.loop-prefix-preserved
loop-prefix-preserved c =
    let e = c.in-Some-Some.ensures.cases in
    let e' = c.in-Some-Some.ensures'.cases in
    let i = c.loop-prefix.invariant in
    let left = back_left c.args.a.now c.loop-prefix.left.now c.in-Some-Some.prefix.now c.in-Some-Some.x.now i.left (cut_back c.loop-prefix.left.now c.in-Some-Some.prefix.now c.in-Some-Some.x.now _ e.0 e.1) in
    let right = back_left c.args.b.now c.loop-prefix.right.now c.in-Some-Some.other.now c.in-Some-Some.y.now i.right (cut_back c.loop-prefix.right.now c.in-Some-Some.other.now c.in-Some-Some.y.now _ e'.0 e'.1) in
    let a : length c.in-Some-Some.prefix.now ≤ length c.args.a.now = omega (arith, e.2, i.a) in
    let b : length c.args.b.now + length c.in-Some-Some.prefix.now ≡ length c.args.a.now + length c.in-Some-Some.other.now = omega (arith, e.2, e'.2, i.b) in
    let same : c.in-Some-Some.x.now ≡ c.in-Some-Some.y.now = equal_chunks c.in-Some-Some.x.now c.in-Some-Some.y.now c.if-ne.ensures in
    record { a = a; b = b; left = left.1; right = right.1; same = left.0 ∙ ap (λ l. l ++ drop (length c.loop-prefix.left.now) c.args.a.now) same ∙ ap (λ l. c.in-Some-Some.y.now ++ l) i.same ∙ sym right.0 }
