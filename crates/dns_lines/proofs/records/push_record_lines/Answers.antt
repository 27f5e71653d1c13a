use Rattle.std.proofs.Common.{◌++◌, ◌∙◌, List, ap, append-nil, sym, ℕ}
use Rattle.dns_denial.proofs.Lines.{lines_all, push_more}
use Rattle.dns_lines.specs.Records.{record_part}
use Rattle.dns_lines.proofs.records.push_record_lines.Goals as goal

pub loop-form-init : goal.loop-form-init
loop-form-init c = sym (append-nil c.args.text.now.items)

pub loop-form-preserved : goal.loop-form-preserved
loop-form-preserved c =
    push_more c.args.forms.now (record_part c.args.apex.now) c.loop-form.form-index c.form-item.result c.args.text.now.items _ _ c.loop-form-test.true c.form-item.is c.loop-form.invariant c.in_ok-push_record_part.ensures

pub returns : goal.returns
returns c = c.loop-form.invariant ∙ ap (λ (l : List ℕ). c.args.text.now.items ++ l) (lines_all c.args.forms.now (record_part c.args.apex.now) c.loop-form.form-index c.loop-form-test.false)
