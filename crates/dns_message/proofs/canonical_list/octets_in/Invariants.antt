use Rattle.std.proofs.Common.{◌≡◌, ◌≤◌, ◌*◌, length, map, take}
use Rattle.std.specs.List.{concat}
use Rattle.dns_message.specs.Order.{octets_of_key}
use Rattle.dns_message.proofs.canonical_list.octets_in.Given as goal

-- the octets of the records so far, of which none has more than 65,800
abbrev pub invariant-loop-form : goal.invariant-loop-form
invariant-loop-form l = record {
  counted : l.total ≡ length (concat (map octets_of_key (take l.form-index l.forms)));
  few : l.total ≤ 65800 * l.form-index;
}
