use Rattle.std.proofs.Common.{◌++◌, ◌∙◌, List, None, ap, filter, refl, rules, ℕ}
use Rattle.dns_message.specs.Canonical.{is_not_opt}
use Rattle.dns_denial.specs.Texts.{members}
use Rattle.dns_lines.specs.Signatures.{signature_lines}
use Rattle.dns_lines.specs.declared.command.LineCommand.TheVariants.{Signed}
use Rattle.dns_lines.proofs.AnswerLemmas.{records_refusal}
use Rattle.dns_lines.proofs.signed.add_signed.Goals as goal

pub returns-in_err-forms-clause-refused : goal.returns-in_err-forms-clause-refused
returns-in_err-forms-clause-refused c = let refused = c.in_err-forms.ensures.refused (λ rs. None) in search (rules, refused)

pub returns-clause-added : goal.returns-clause-added
returns-clause-added c =
    let read = c.in_ok-forms.ensures.read in
    let order = c.forms.ensures ∙ c.in_ok-order.ensures.keys (filter is_not_opt read.0) read.2 in (
      signature_lines (members read.0),
      (read.0, read.1, refl),
      c.in_ok-extend_from_slice.ensures.items ∙ ap (λ (l : List ℕ). c.args.answers.now.items ++ l) (c.deref.ensures.value ∙ c.in_ok-lines.ensures ∙ ap signature_lines order),
    )

pub returns-clause-accepted : goal.returns-clause-accepted
returns-clause-accepted c = let read = c.in_ok-forms.ensures.read in records_refusal Signed c.args.line.now read.0 read.1
