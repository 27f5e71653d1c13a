use Rattle.std.proofs.Common.{refl, subst, sym}
use Rattle.std.proofs.lemmas.Result.{IfErr-weaker, IfOk-weaker}
use Rattle.dns_text.specs.Hexadecimal.{Spells}
use Rattle.dns_command.specs.Outcomes.{RefusesFor}
use Rattle.dns_canon.specs.ExpectedStatus.{canon_refusal}
use Rattle.dns_canon.specs.declared.words.Command.TheVariants.{Canon}
use Rattle.dns_canon.proofs.CanonRefusals.{one_refused, spelled_there}
use Rattle.dns_canon.proofs.command.forms_of_text.Goals as goal

pub returns-clause-forms : goal.returns-clause-forms
returns-clause-forms c =
    let spells : Spells c.args.text.now c.deref.result.now = spelled_there c.args.text.now c.args.text.now _ c.deref.result.now refl c.deref.ensures.value c.in_ok-message.ensures.ok in
    IfOk-weaker c.read_message.result _ _ (λ forms read. (c.deref.result.now, read.0, spells, read.1, read.2)) c.read_message.ensures.read

pub returns-clause-refused : goal.returns-clause-refused
returns-clause-refused c =
    let spells : Spells c.args.text.now c.deref.result.now = spelled_there c.args.text.now c.args.text.now _ c.deref.result.now refl c.deref.ensures.value c.in_ok-message.ensures.ok in
    IfErr-weaker c.read_message.result _ _ (λ refused why. subst (RefusesFor (canon_refusal Canon c.args.text.now)) (sym why.2) (one_refused c.args.text.now c.deref.result.now why.0 spells why.1)) c.read_message.ensures.error
