use Rattle.std.proofs.Common.{◌≡◌, map, take}
use Rattle.std.specs.List.{All}
use Rattle.dns_wire.specs.Octets.{Octets}
use Rattle.dns_message.specs.Fronts.{BeginsWith, HasFront}
use Rattle.dns_message.specs.declared.form_order.FrontedForm.{FrontedForm}
use Rattle.dns_message.proofs.form_order.fronted.Given as goal

-- the forms so far are there, with the numbers of what comes after the octets that all keys begin with
abbrev pub invariant-loop-form : goal.invariant-loop-form
invariant-loop-form l = record {
  forms : map (λ (e : FrontedForm). e.form.now) l.entries.items ≡ take l.form-index l.forms;
  fronts : (start : Octets) × All (BeginsWith start l.shared) l.forms × All (HasFront start) l.entries.items;
}
