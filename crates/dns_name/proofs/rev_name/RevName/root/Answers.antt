use Rattle.std.proofs.Common.{[], Some, sym, ap, ◌∙◌}
use Rattle.dns_wire.proofs.Backward.{root_is_name, reversed_read, reversed_labels}
use Rattle.dns_name.proofs.rev_name.RevName.root.Goals as goal

pub invariant_of-result : goal.invariant_of-result
invariant_of-result c = record { is_name = reversed_read [] root_is_name ∙ ap Some (sym (reversed_labels [] root_is_name)) }

pub returns : goal.returns
returns c = reversed_labels [] root_is_name
