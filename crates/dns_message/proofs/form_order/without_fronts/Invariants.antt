use Rattle.std.proofs.Common.{◌≡◌, map, take}
use Rattle.dns_message.specs.declared.form_order.FrontedForm.{FrontedForm}
use Rattle.dns_message.proofs.form_order.without_fronts.Given as goal

-- the forms so far are there
abbrev pub invariant-loop-entry : goal.invariant-loop-entry
invariant-loop-entry l = l.forms.items ≡ map (λ (e : FrontedForm). e.form.now) (take l.entry-index l.entries)
