use Rattle.std.proofs.Common.{List, map, subst, sym, take}
use Rattle.std.proofs.lemmas.Result.{err_from_is_err_and}
use Rattle.dns_message.specs.Canonical.{lowercase_names}
use Rattle.dns_message.specs.Order.{octets_of_key}
use Rattle.dns_message.specs.Messages.{RecordValue}
use Rattle.dns_normal.specs.Answers.{HasAnswers}
use Rattle.dns_normal.proofs.RecordsOf.{all_taken, record_in, too_many}
use Rattle.dns_normal.proofs.message.push_records.Goals as goal

pub push_record-requires : goal.push_record-requires
push_record-requires c =
    let all = c.requires in
    let at = record_in c.args.forms.now octets_of_key all.0 all.1 c.loop-form.form-index c.form-item.result c.loop-form-test.true c.form-item.is in
    (at.found, at.well, at.octets_is)

pub loop-form-preserved : goal.loop-form-preserved
loop-form-preserved c = λ most rs none are.
    let at = record_in c.args.forms.now octets_of_key rs are c.loop-form.form-index c.form-item.result c.loop-form-test.true c.form-item.is in
    subst (λ (l : List RecordValue). HasAnswers most l c.push_record.new.builder) (sym at.more)
    (c.in_ok-push_record.ensures most (map lowercase_names (take c.loop-form.form-index rs)) at.found (c.loop-form.invariant most rs none are) at.well at.octets_is)

pub returns-in_err-push_record : goal.returns-in_err-push_record
returns-in_err-push_record c =
    let p = err_from_is_err_and c.from_residual.result c.from_residual.ensures.1 in
    rw (p.1) (λ most rs none are.
    let at = record_in c.args.forms.now octets_of_key rs are c.loop-form.form-index c.form-item.result c.loop-form-test.true c.form-item.is in
    too_many most rs c.loop-form.form-index _ at (c.in_err-push_record.ensures most (map lowercase_names (take c.loop-form.form-index rs)) at.found (c.loop-form.invariant most rs none are) at.well at.octets_is))

pub returns : goal.returns
returns c = λ most rs none are.
    subst (λ (l : List RecordValue). HasAnswers most l c.loop-form.builder) (all_taken c.args.forms.now octets_of_key rs are c.loop-form.form-index c.loop-form-test.false) (c.loop-form.invariant most rs none are)
