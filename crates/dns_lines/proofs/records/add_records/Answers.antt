use Rattle.std.proofs.Common.{◌++◌, ◌∙◌, List, None, ap, refl, rules, ℕ}
use Rattle.dns_message.specs.FormsRead.{forms_of}
use Rattle.dns_lines.specs.Records.{record_lines}
use Rattle.dns_lines.specs.declared.command.LineCommand.TheVariants.{Records}
use Rattle.dns_lines.proofs.AnswerLemmas.{records_refusal}
use Rattle.dns_lines.proofs.records.add_records.Goals as goal

pub returns-in_err-forms-clause-refused : goal.returns-in_err-forms-clause-refused
returns-in_err-forms-clause-refused c = let refused = c.in_err-forms.ensures.refused (λ rs. None) in search (rules, refused)

pub returns-clause-added : goal.returns-clause-added
returns-clause-added c =
    let read = c.in_ok-forms.ensures.read in
    let apex = c.args.apex.now in (
      record_lines apex (forms_of read.0),
      (read.0, read.1, refl),
      c.in_ok-extend_from_slice.ensures.items
          ∙ ap (λ (l : List ℕ). c.args.answers.now.items ++ l) (c.deref-2.ensures.value ∙ c.in_ok-push_record_lines.ensures ∙ ap (λ (l : List ℕ). l ++ record_lines apex c.deref.result.now) c.new-lines.ensures.items ∙ ap (record_lines apex) (c.deref.ensures.value ∙ c.in_ok-views.ensures ∙ read.2)),
    )

pub returns-clause-accepted : goal.returns-clause-accepted
returns-clause-accepted c = let read = c.in_ok-forms.ensures.read in records_refusal (Records c.args.apex.now) c.args.line.now read.0 read.1
