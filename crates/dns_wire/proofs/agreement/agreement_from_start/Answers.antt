use Rattle.std.proofs.Common.{arith, ◌≤◌, ◌+◌, ◌-◌, ◌∙◌, drop}
use Rattle.dns_wire.specs.Agreement.{agreeing_prefix}
use Rattle.dns_wire.proofs.Agreeing.{agrees_from, block_agrees, agreed_most}
use Rattle.dns_wire.proofs.agreement.agreement_from_start.Goals as goal

pub returns-then-agreed-lt16 : goal.returns-then-agreed-lt16
returns-then-agreed-lt16 c =
    let block = c.agreement_in_block-agreed.ensures.exact ∙ block_agrees 16 (drop c.loop-at.at c.args.a.now) (drop c.loop-at.at c.args.b.now) in
    omega (arith, block, c.if-agreed-lt16.true, agrees_from c.loop-at.at c.args.a.now c.args.b.now c.loop-at.invariant.agreed)

pub loop-at-preserved : goal.loop-at-preserved
loop-at-preserved c =
    let block = c.agreement_in_block-agreed.ensures.exact ∙ block_agrees 16 (drop c.loop-at.at c.args.a.now) (drop c.loop-at.at c.args.b.now) in
    let agreed : c.loop-at.at + c.agreement_in_block-agreed.result ≤ agreeing_prefix c.args.a.now c.args.b.now = omega (arith, block, agrees_from c.loop-at.at c.args.a.now c.args.b.now c.loop-at.invariant.agreed) in
    record { within = omega (arith, agreed, agreed_most c.args.a.now c.args.b.now); agreed = agreed }

pub returns : goal.returns
returns c =
    let start = c.min-both.result - 16 in
    let within : start ≤ agreeing_prefix c.args.a.now c.args.b.now = omega (arith, c.loop-at.invariant.agreed, c.loop-at-test.false) in
    let block = c.agreement_in_block.ensures.exact ∙ block_agrees 16 (drop start c.args.a.now) (drop start c.args.b.now) in
    omega (arith, block, agrees_from start c.args.a.now c.args.b.now within, agreed_most c.args.a.now c.args.b.now, c.min-both.ensures, c.if-both-lt16.false)
