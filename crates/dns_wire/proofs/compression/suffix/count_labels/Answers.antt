use Rattle.std.proofs.Common.{arith}
use Rattle.dns_wire.proofs.MatchingNames.{name_few}
use Rattle.dns_wire.proofs.compression.suffix.count_labels.Goals as goal

pub loop-label-init : goal.loop-label-init
loop-label-init c = record { whole = c.requires; sum = omega arith; few = name_few _ c.requires }
