use Rattle.std.proofs.Common.{ℕ, ap, ◌∙◌, arith, get_or}
use Rattle.dns_message.specs.Messages.{counts_of}
use Rattle.dns_message.proofs.NextItem.{count_at, placed_first, placed_later, placed_here, placed_last}
use Rattle.dns_message.proofs.parser.MessageParser.next_position.Goals as goal

pub loop-section-init : goal.loop-section-init
loop-section-init c = placed_first c.args.self.now.message.slice.now c.args.self.now.given

pub returns-then-index-from-clause-none : goal.returns-then-index-from-clause-none
returns-then-index-from-clause-none c =
    let m = c.args.self.now.message.slice.now in
    let at = count_at m c.header.result.counts c.as_array-counts.result c.from.result (omega (arith, c.from.ensures, c.loop-section-test.true)) c.as_array-counts.ensures c.header.ensures.counts in
    let count = c.from-in-loop-section.ensures ∙ c.get-count.ensures ∙ at ∙ ap (λ (s : ℕ). get_or (counts_of m) s 0) c.from.ensures in
    placed_here m c.args.self.now.given c.loop-section.section c.loop-section.index c.from-in-loop-section.result c.loop-section-test.true count c.if-index-from.true c.loop-section.invariant

pub returns-then-index-from-clause-few : goal.returns-then-index-from-clause-few
returns-then-index-from-clause-few c =
    omega (arith, c.loop-section.invariant.few, c.loop-section-test.true, c.if-index-from.true, c.from-in-loop-section.ensures, c.get-count.type_inv)

pub loop-section-preserved : goal.loop-section-preserved
loop-section-preserved c =
    let m = c.args.self.now.message.slice.now in
    let at = count_at m c.header.result.counts c.as_array-counts.result c.from.result (omega (arith, c.from.ensures, c.loop-section-test.true)) c.as_array-counts.ensures c.header.ensures.counts in
    let count = c.from-index.ensures ∙ c.get-count.ensures ∙ at ∙ ap (λ (s : ℕ). get_or (counts_of m) s 0) c.from.ensures in
    placed_later m c.args.self.now.given c.loop-section.section c.loop-section.index c.from-index.result c.loop-section-test.true count
    (omega (arith, c.if-index-from.false, c.from-in-loop-section.ensures, c.from-index.ensures)) (omega (arith, c.from-index.ensures, c.get-count.type_inv)) c.loop-section.invariant

pub returns-clause-none : goal.returns-clause-none
returns-clause-none c =
    placed_last c.args.self.now.message.slice.now c.args.self.now.given c.loop-section.section c.loop-section.index (omega (arith, c.loop-section-test.false, c.loop-section.auto.section-end)) c.loop-section.invariant
