use Rattle.std.proofs.Common.{[], ◌∙◌}
use Rattle.dns_wire.specs.Names.{name_labels}
use Rattle.dns_denial.specs.Coverage.{coverage_line}
use Rattle.dns_denial.proofs.Lines.{lines_all, push_more}
use Rattle.dns_denial.proofs.message.coverage_text.Goals as goal

pub loop-found-preserved : goal.loop-found-preserved
loop-found-preserved c =
    push_more c.args.forms.now (coverage_line (name_labels c.args.name.slice.now)) c.loop-found.found-index c.found-item.result [] _ _ c.loop-found-test.true c.found-item.is c.loop-found.invariant c.in_ok-push_coverage_line.ensures

pub returns : goal.returns
returns c = c.loop-found.invariant ∙ lines_all c.args.forms.now (coverage_line (name_labels c.args.name.slice.now)) c.loop-found.found-index c.loop-found-test.false
