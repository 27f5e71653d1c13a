use Rattle.std.proofs.Common.{Option, ap, filter, subst, sym, ◌∙◌}
use Rattle.std.specs.Result.{IfErr}
use Rattle.std.proofs.lemmas.Result.{IfOk-weaker}
use Rattle.dns_command.specs.Outcomes.{RefusesFor}
use Rattle.dns_command.specs.declared.refusal.OneMessage.{OneMessage}
use Rattle.dns_command.proofs.RefusalLemmas.{text_refusal}
use Rattle.dns_message.specs.Canonical.{is_not_opt}
use Rattle.dns_denial.specs.Signed.{DenialRefusal}
use Rattle.dns_denial.specs.Texts.{members, members_refusal, members_text}
use Rattle.dns_denial.proofs.Outcomes.{read_prints, read_refusal, refused_again}
use Rattle.dns_denial.proofs.message.print_message.Goals as goal

pub returns-in_err-forms-clause-refused : goal.returns-in_err-forms-clause-refused
returns-in_err-forms-clause-refused c =
    let command = c.args.command.now in
    refused_again c.from_residual.result c.in_err-forms.field-0.0 _ c.from_residual.ensures.1
    (subst (λ (o : Option DenialRefusal). RefusesFor o c.in_err-forms.field-0.0) (sym (read_refusal command c.args.text.now c.requires)) (c.in_err-forms.ensures.refused (λ rs. members_refusal command (members rs))))

pub returns : goal.returns
returns c =
    let command = c.args.command.now in
    let read = c.in_ok-forms.ensures.read in
    let keys = c.forms.ensures ∙ c.in_ok-order.ensures.keys (filter is_not_opt read.0) read.2 in
    let one : OneMessage = record {} in
    let refusal = read_refusal command c.args.text.now c.requires ∙ text_refusal one (λ rs. members_refusal command (members rs)) c.args.text.now read.0 read.1 ∙ ap (members_refusal command) (sym keys) in
    record {
      printed = IfOk-weaker c.text_of.result _ _ (λ printed is. read_prints command c.args.text.now printed.items c.requires (read.0, read.1, is ∙ ap (members_text command) keys)) c.text_of.ensures.printed;
      accepted = IfOk-weaker c.text_of.result _ _ (λ printed is. refusal ∙ is) c.text_of.ensures.accepted;
      refused = subst (λ (o : Option DenialRefusal). IfErr c.text_of.result (RefusesFor o)) (sym refusal) c.text_of.ensures.refused;
    }
