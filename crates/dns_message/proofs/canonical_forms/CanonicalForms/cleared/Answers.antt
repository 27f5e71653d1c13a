use Rattle.std.proofs.Common.{◌∙◌}
use Rattle.dns_message.proofs.FormLemmas.{none_are_forms, no_forms}
use Rattle.dns_message.proofs.canonical_forms.CanonicalForms.cleared.Goals as goal

pub invariant_of-result : goal.invariant_of-result
invariant_of-result c = rw (c.in_ok-reserve.ensures.items ∙ c.clear.ensures.items, c.in_ok-reserve-2.ensures.items ∙ c.clear-2.ensures.items, c.in_ok-reserve-3.ensures.items ∙ c.clear-3.ensures.items) none_are_forms

pub returns : goal.returns
returns c = rw (c.in_ok-reserve-2.ensures.items ∙ c.clear-2.ensures.items, c.in_ok-reserve-3.ensures.items ∙ c.clear-3.ensures.items) no_forms
