use Rattle.std.proofs.Common.{refl}
use Rattle.dns_label.specs.Labels.{plain_label}
use Rattle.dns_label.proofs.label.Label.root.Goals as goal

pub invariant_of-result : goal.invariant_of-result
unfolding plain_label
invariant_of-result c = record { is_label = refl }
