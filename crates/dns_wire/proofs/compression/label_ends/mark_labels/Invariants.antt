use Rattle.std.proofs.Common.{◌≡◌, length, Some}
use Rattle.dns_wire.specs.Reading.{all_of}
use Rattle.dns_wire.specs.Names.{plain_name, name_labels}
use Rattle.dns_wire.proofs.LabelEnds.{Marking}
use Rattle.dns_wire.proofs.compression.label_ends.mark_labels.Given as goal

abbrev pub invariant-loop-label : goal.invariant-loop-label
invariant-loop-label l = record {
  whole : all_of (plain_name l.rest) ≡ Some (name_labels l.rest);
  size : length l.marks ≡ 32;
  marking : Marking l.back l.marks l.rest l.name;
}

abbrev pub decreases-loop-label : goal.decreases-loop-label
decreases-loop-label l = length l.rest
