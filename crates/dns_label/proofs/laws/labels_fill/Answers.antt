use Rattle.std.proofs.Common.{refl}
use Rattle.dns_wire.specs.Names.{labels_wire}
use Rattle.dns_label.specs.Labels.{sequence_labels}
use Rattle.dns_label.proofs.FilledLabels.{list_takes, are_labels, labels_in_wire}
use Rattle.dns_label.proofs.laws.labels_fill.Goals as goal

pub returns-clause-spelled : goal.returns-clause-spelled
returns-clause-spelled c = λ octets is. list_takes octets (sequence_labels octets) is

pub returns-clause-read : goal.returns-clause-read
returns-clause-read c = λ labels sizes. (are_labels (labels_wire labels) labels sizes refl, (labels_in_wire (labels_wire labels) labels sizes refl).1)
