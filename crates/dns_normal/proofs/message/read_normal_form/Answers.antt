use Rattle.std.proofs.Common.{rules, subst, sym, ◌∙◌}
use Rattle.std.specs.Prelude.{IfErr}
use Rattle.std.proofs.lemmas.Result.{IfOk-weaker}
use Rattle.dns_command.specs.Outcomes.{RefusesFor}
use Rattle.dns_command.specs.declared.refusal.OneMessage.{OneMessage}
use Rattle.dns_command.proofs.RefusalLemmas.{text_refusal}
use Rattle.dns_command.proofs.TextLemmas.{text_well}
use Rattle.dns_normal.specs.Texts.{form_refusal}
use Rattle.dns_normal.proofs.message.read_normal_form.Goals as goal

pub form_of-requires : goal.form_of-requires
form_of-requires c = let read = c.in_ok-forms.ensures.read in (read.0, text_well c.args.text.now read.0 read.1, read.2)

pub returns : goal.returns
returns c =
    let read = c.in_ok-forms.ensures.read in
    let well = text_well c.args.text.now read.0 read.1 in
    let one : OneMessage = record {} in
    let refusal = text_refusal one form_refusal c.args.text.now read.0 read.1 in
    record {
      formed = IfOk-weaker c.form_of.result _ _ (λ form is. (read.0, read.1, is)) (c.form_of.ensures.formed read.0 well read.2);
      accepted = IfOk-weaker c.form_of.result _ _ (λ form is. refusal ∙ is) (c.form_of.ensures.accepted read.0 well read.2);
      refused = subst (λ o. IfErr c.form_of.result (RefusesFor o)) (sym refusal) (c.form_of.ensures.refused read.0 well read.2);
    }

pub returns-in_err-forms-clause-refused : goal.returns-in_err-forms-clause-refused
returns-in_err-forms-clause-refused c = let refused = c.in_err-forms.ensures.refused form_refusal in search (rules, refused)
