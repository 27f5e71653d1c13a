use Rattle.std.proofs.Common.{ap, arith, length, subst, ◌∙◌}
use Rattle.dns_message.specs.Forms.{IsForm, form_owner_key}
use Rattle.dns_message.proofs.FormLemmas.{key_short, owner_is_name}
use Rattle.dns_message.proofs.canonical_form.CanonicalForm.owner_key.Goals as goal

pub returns-clause-short : goal.returns-clause-short
returns-clause-short c =
    omega (arith, ap length (c.self.invariant.0 ∙ ap form_owner_key c.self.view_is), key_short c.args.self.now (subst IsForm c.self.view_is c.self.invariant.2))

pub returns-clause-name : goal.returns-clause-name
returns-clause-name c = owner_is_name c.args.self.now (subst IsForm c.self.view_is c.self.invariant.2)
