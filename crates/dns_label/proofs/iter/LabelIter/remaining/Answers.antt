use Rattle.std.proofs.Common.{◌∙◌, ap}
use Rattle.dns_wire.specs.Names.{labels_wire}
use Rattle.dns_label.proofs.FilledLabels.{list_takes}
use Rattle.dns_label.proofs.iter.LabelIter.remaining.Goals as goal

pub returns-clause-octets : goal.returns-clause-octets
returns-clause-octets c = (list_takes _ _ c.self.invariant).1 ∙ ap labels_wire c.self.view_is
