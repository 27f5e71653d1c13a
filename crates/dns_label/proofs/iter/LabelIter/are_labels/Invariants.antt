use Rattle.std.proofs.Common.{length}
use Rattle.std.specs.Prelude.{◌↔◌}
use Rattle.dns_label.specs.Labels.{AreLabels}
use Rattle.dns_label.proofs.iter.LabelIter.are_labels.Given as goal

-- labels are before the rest
abbrev pub invariant-loop-label : goal.invariant-loop-label
invariant-loop-label l = AreLabels l.octets ↔ AreLabels l.rest

abbrev pub decreases-loop-label : goal.decreases-loop-label
decreases-loop-label l = length l.rest
