use Rattle.std.proofs.Common.{◌++◌, ◌∙◌, ap, append-nil, flat_map, sym, take_all}
use Rattle.dns_zonemd.specs.Verdicts.{sums_text, verdict_line}
use Rattle.dns_zonemd.proofs.VerdictLemmas.{one_more}
use Rattle.dns_zonemd.proofs.report.report_text.Goals as goal

pub loop-zonemd-init : goal.loop-zonemd-init
loop-zonemd-init c = λ records stream are. c.in_ok-text.ensures records stream are ∙ sym (append-nil (sums_text records stream))

pub loop-zonemd-preserved : goal.loop-zonemd-preserved
loop-zonemd-preserved c = λ records stream are.
    one_more c.args.zonemds.now (verdict_line c.args.soas.now c.args.zonemds.now stream) c.loop-zonemd.zonemd-index c.zonemd-item.result (sums_text records stream) _ _ c.loop-zonemd-test.true c.zonemd-item.is
    (c.loop-zonemd.invariant records stream are) (c.in_ok-push_verdict.ensures records stream are)

pub returns : goal.returns
returns c = λ records stream are.
    c.loop-zonemd.invariant records stream are
    ∙ ap (λ l. sums_text records stream ++ flat_map (verdict_line c.args.soas.now c.args.zonemds.now stream) l) (take_all c.loop-zonemd.zonemd-index c.args.zonemds.now c.loop-zonemd-test.false)
