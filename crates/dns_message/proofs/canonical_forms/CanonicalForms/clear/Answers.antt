use Rattle.dns_message.proofs.FormLemmas.{none_are_forms, no_forms}
use Rattle.dns_message.proofs.canonical_forms.CanonicalForms.clear.Goals as goal

pub invariant_of-self : goal.invariant_of-self
invariant_of-self c = rw (c.clear.ensures.items, c.clear-2.ensures.items, c.clear-3.ensures.items) none_are_forms

pub returns : goal.returns
returns c = rw (c.clear-2.ensures.items, c.clear-3.ensures.items) no_forms
