use Rattle.std.proofs.Common.{arith, rules, subst, sym, ◌∙◌}
use Rattle.std.specs.Prelude.{IfErr}
use Rattle.std.proofs.lemmas.Result.{IfOk-weaker}
use Rattle.dns_wire.specs.Reading.{AreOctets}
use Rattle.dns_command.specs.Outcomes.{RefusesFor}
use Rattle.dns_command.specs.declared.refusal.OneMessage.{OneMessage}
use Rattle.dns_command.proofs.RefusalLemmas.{valid_refusal}
use Rattle.dns_message.proofs.WellFormedLemmas.{all_well}
use Rattle.dns_normal.specs.Texts.{form_refusal}
use Rattle.dns_normal.proofs.message.normal_form.Goals as goal

pub form_of-requires : goal.form_of-requires
form_of-requires c =
    let read = c.in_ok-forms.ensures.read in
    let fit : AreOctets c.args.message.now = λ i. (let fits = c.type_inv.message i in omega (arith, fits)) in
    (read.0, all_well c.args.message.now read.0 fit read.1, read.2)

pub returns : goal.returns
returns c =
    let read = c.in_ok-forms.ensures.read in
    let fit : AreOctets c.args.message.now = λ i. (let fits = c.type_inv.message i in omega (arith, fits)) in
    let well = all_well c.args.message.now read.0 fit read.1 in
    let one : OneMessage = record {} in
    let refusal = valid_refusal one form_refusal c.args.message.now read.0 read.1 in
    record {
      formed = IfOk-weaker c.form_of.result _ _ (λ form is. (read.0, read.1, is)) (c.form_of.ensures.formed read.0 well read.2);
      accepted = IfOk-weaker c.form_of.result _ _ (λ form is. refusal ∙ is) (c.form_of.ensures.accepted read.0 well read.2);
      refused = subst (λ o. IfErr c.form_of.result (RefusesFor o)) (sym refusal) (c.form_of.ensures.refused read.0 well read.2);
    }

pub returns-in_err-forms-clause-refused : goal.returns-in_err-forms-clause-refused
returns-in_err-forms-clause-refused c = let refused = c.in_err-forms.ensures.refused form_refusal in search (rules, refused)
