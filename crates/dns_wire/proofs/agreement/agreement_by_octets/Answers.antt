use Rattle.std.proofs.Common.{arith}
use Rattle.dns_wire.proofs.Agreeing.{prefix_ended}
use Rattle.dns_wire.proofs.agreement.agreement_by_octets.Goals as goal

pub returns-else-at-b : goal.returns-else-at-b
returns-else-at-b c = omega (arith, c.loop-at.invariant.same, prefix_ended c.loop-at.at c.args.a.now c.args.b.now c.loop-at.invariant.a c.if-at-b.false)
