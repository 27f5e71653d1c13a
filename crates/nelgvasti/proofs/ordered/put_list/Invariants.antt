use Rattle.std.proofs.Common.{◌≡◌, ◌++◌, drop, length, map, take}
use Rattle.std.specs.List.{concat}
use Rattle.dns_message.specs.Order.{octets_of_key}
use Rattle.nelgvasti.proofs.ordered.put_list.Given as goal

-- the octets of the records so far, and after them the buffer as it was
abbrev pub invariant-loop-form : goal.invariant-loop-form
invariant-loop-form l = record {
  ends : l.end ≡ length (concat (map octets_of_key (take l.form-index l.form-items)));
  filled : l.out ≡ concat (map octets_of_key (take l.form-index l.form-items)) ++ drop l.end l.initial.out;
}
