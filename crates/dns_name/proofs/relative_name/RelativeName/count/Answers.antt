use Rattle.std.proofs.Common.{arith}
use Rattle.dns_wire.proofs.Backward.{relative_is}
use Rattle.dns_wire.proofs.NamesLemmas.{few_labels}
use Rattle.dns_name.proofs.relative_name.RelativeName.count.Goals as goal

pub loop-label-init : goal.loop-label-init
loop-label-init c = (omega arith, few_labels _ (relative_is _ _ c.args.self.now.are_labels).0)
