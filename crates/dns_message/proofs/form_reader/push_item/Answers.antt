use Rattle.std.proofs.lemmas.Result.{IfOk-weaker}
use Rattle.dns_record.specs.FurtherFormats.{data_by}
use Rattle.dns_message.specs.FormsRead.{forms_up_to}
use Rattle.dns_message.proofs.FormsAdded.{question_adds, record_adds_form}
use Rattle.dns_message.proofs.form_reader.push_item.Goals as goal

pub returns-then-section-ne0-clause-adds : goal.returns-then-section-ne0-clause-adds
returns-then-section-ne0-clause-adds c =
    IfOk-weaker c.push_record.result _ _ (λ end adds. record_adds_form (data_by c.args.formats) c.args.section c.args.names.now c.args.start c.args.forms.now (forms_up_to c.push_record.new.forms end) c.if-section-ne0.true adds) c.push_record.ensures.adds

pub returns-clause-adds : goal.returns-clause-adds
returns-clause-adds c =
    IfOk-weaker c.end_of_question.result _ _ (λ found ends. question_adds (data_by c.args.formats) c.args.section c.args.names.now c.args.start c.args.forms.now found c.if-section-ne0.false ends) c.end_of_question.ensures.end
