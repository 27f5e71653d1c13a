use Rattle.std.proofs.Common.{refl}
use Rattle.dns_wire.specs.Names.{plain_name, name_labels, labels_within}
use Rattle.dns_name.proofs.name.Name.root.Goals as goal

pub invariant_of-result : goal.invariant_of-result
unfolding plain_name name_labels labels_within
invariant_of-result c = record { is_name = refl }

pub returns : goal.returns
unfolding plain_name name_labels labels_within
returns c = refl
