use Rattle.std.proofs.Common.{refl, arith}
use Rattle.dns_name.proofs.Buffered.{held_none}
use Rattle.dns_name.proofs.labels_buf.LabelsBuf.new.Goals as goal

pub invariant_of-result : goal.invariant_of-result
invariant_of-result c = (omega arith, refl, held_none.sizes, held_none.octets_are)

pub returns : goal.returns
returns c = held_none.labels_are
