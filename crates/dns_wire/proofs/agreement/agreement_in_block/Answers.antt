use Rattle.std.proofs.Common.{arith, take, drop, ap, ap₂, sym, ◌∙◌}
use lib.Count.{count_trailing_zeros}
use Rattle.dns_wire.proofs.Agreeing.{all_same, none_differ, some_differ, block_of, differing, agreed_most}
use Rattle.dns_wire.proofs.agreement.agreement_in_block.Goals as goal

pub returns-then-differs-eq0-clause-exact : goal.returns-then-differs-eq0-clause-exact
returns-then-differs-eq0-clause-exact c =
    all_same (take 16 (drop c.args.at c.args.a.now)) (take 16 (drop c.args.at c.args.b.now)) (block_of c.args.at c.args.a.now c.requires.left) (block_of c.args.at c.args.b.now c.requires.right) c.if-differs-eq0.true

pub returns-then-differs-eq0-2-clause-exact : goal.returns-then-differs-eq0-2-clause-exact
returns-then-differs-eq0-2-clause-exact c =
    none_differ (take 16 (drop c.args.at c.args.a.now)) (take 16 (drop c.args.at c.args.b.now)) (block_of c.args.at c.args.a.now c.requires.left) (block_of c.args.at c.args.b.now c.requires.right)
    (sym (ap₂ differing c.lowercase_block.ensures c.lowercase_block-2.ensures) ∙ c.if-differs-eq0-2.true)

pub returns-else-differs-eq0-2-clause-exact : goal.returns-else-differs-eq0-2-clause-exact
returns-else-differs-eq0-2-clause-exact c =
    let low = ap₂ differing c.lowercase_block.ensures c.lowercase_block-2.ensures in
    ap (count_trailing_zeros 64) low
    ∙ some_differ (take 16 (drop c.args.at c.args.a.now)) (take 16 (drop c.args.at c.args.b.now)) (block_of c.args.at c.args.a.now c.requires.left) (block_of c.args.at c.args.b.now c.requires.right) (λ e. c.if-differs-eq0-2.false (low ∙ e))

pub returns-else-differs-eq0-2-clause-within : goal.returns-else-differs-eq0-2-clause-within
returns-else-differs-eq0-2-clause-within c =
    let left = take 16 (drop c.args.at c.args.a.now) in
    let right = take 16 (drop c.args.at c.args.b.now) in
    let low = ap₂ differing c.lowercase_block.ensures c.lowercase_block-2.ensures in
    omega (
      arith,
      ap (count_trailing_zeros 64) low,
      some_differ left right (block_of c.args.at c.args.a.now c.requires.left) (block_of c.args.at c.args.b.now c.requires.right) (λ e. c.if-differs-eq0-2.false (low ∙ e)),
      agreed_most left right,
      block_of c.args.at c.args.a.now c.requires.left,
    )
