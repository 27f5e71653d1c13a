use Rattle.std.proofs.Common.{[], ◌∙◌}
use Rattle.dns_denial.proofs.Lines.{lines_all, push_more}
use Rattle.dns_lines.specs.Signatures.{signature_part}
use Rattle.dns_lines.proofs.signed.signature_lines.Goals as goal

pub loop-found-preserved : goal.loop-found-preserved
loop-found-preserved c =
    push_more c.args.forms.now (signature_part c.args.forms.now) c.loop-found.found-index c.found-item.result [] _ _ c.loop-found-test.true c.found-item.is c.loop-found.invariant c.in_ok-push_signature_part.ensures

pub returns : goal.returns
returns c = c.loop-found.invariant ∙ lines_all c.args.forms.now (signature_part c.args.forms.now) c.loop-found.found-index c.loop-found-test.false
