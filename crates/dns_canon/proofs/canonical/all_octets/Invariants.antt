use Rattle.std.proofs.Common.{◌≡◌, map, take}
use Rattle.dns_message.specs.Order.{octets_of_key}
use Rattle.dns_canon.proofs.canonical.all_octets.Given as goal

abbrev pub invariant-loop-form : goal.invariant-loop-form
invariant-loop-form l = map (λ list. list.items) l.lists.items ≡ map octets_of_key (take l.form-index l.forms)
