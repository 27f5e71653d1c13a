use Rattle.std.proofs.Common.{arith, sym, ◌∙◌}
use Rattle.dns_text.proofs.Trimming.{trim-prefix_blank, trim-prefix_solid, trim-none}
use Rattle.dns_text.proofs.hexadecimal.trimmed.Goals as goal
use Rattle.dns_text.proofs.hexadecimal.trimmed.Goals.{then-loop-end-test+else-is_whitespace, else-loop-end-test}

pub loop-end-preserved : goal.loop-end-preserved
loop-end-preserved c = record {
  within = omega arith;
  same = trim-prefix_blank c.args.text.now c.loop-end.end c.loop-end-test.true c.loop-end.invariant.within
      (sym c.is_whitespace.ensures ∙ c.if-is_whitespace.true) ∙ c.loop-end.invariant.same;
}

pub returns : goal.returns
returns c = elim c.loop-end-test.branch [
  | then-loop-end-test+else-is_whitespace w ↦
      trim-prefix_solid c.args.text.now c.loop-end.end w.loop-end-test.true c.loop-end.invariant.within
      (sym w.is_whitespace.ensures ∙ w.if-is_whitespace.false) ∙ c.loop-end.invariant.same
  | else-loop-end-test w ↦ trim-none c.args.text.now c.loop-end.end w.loop-end-test.false ∙ c.loop-end.invariant.same
]
