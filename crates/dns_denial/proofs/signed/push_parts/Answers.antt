use Rattle.std.proofs.Common.{◌++◌, ◌∙◌, List, ap, ℕ}
use Rattle.dns_denial.specs.Signed.{signed_part}
use Rattle.dns_denial.proofs.Lines.{lines_all, push_more}
use Rattle.dns_denial.proofs.signed.push_parts.Goals as goal

pub loop-found-preserved : goal.loop-found-preserved
loop-found-preserved c =
    push_more c.args.forms.now (signed_part c.args.signature.now) c.loop-found.found-index c.found-item.result c.args.signed.now.items _ _ c.loop-found-test.true c.found-item.is c.loop-found.invariant c.in_ok-push_part.ensures

pub returns : goal.returns
returns c =
    c.loop-found.invariant
    ∙ ap (λ (l : List ℕ). c.args.signed.now.items ++ l) (lines_all c.args.forms.now (signed_part c.args.signature.now) c.loop-found.found-index c.loop-found-test.false)
