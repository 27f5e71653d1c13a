use Rattle.std.proofs.Common.{◌≡◌, ◌++◌, filter, take}
use Rattle.dns_zone.specs.Zone.{belongs_form}
use Rattle.dns_zone.proofs.messages.push_members.Given as goal

-- the members so far are there
abbrev pub invariant-loop-form : goal.invariant-loop-form
invariant-loop-form l = l.members ≡ l.initial.members ++ filter (belongs_form l.apex) (take l.form-index l.forms)
