use Rattle.std.proofs.Common.{arith}
use Rattle.std.proofs.lemmas.List.{length-drop}
use Rattle.dns_wire.proofs.Backward.{relative_after_root, reversed_size}
use Rattle.dns_name.proofs.rev_name.RevName.relative.Goals as goal

pub split_at-requires : goal.split_at-requires
split_at-requires c = (reversed_size _ _ c.args.self.now.is_name).some

pub invariant_of-result : goal.invariant_of-result
invariant_of-result c = record { are_labels = rw c.split_at.ensures.back (relative_after_root _ c.args.self.now.is_name).0 }

pub returns-clause-labels : goal.returns-clause-labels
returns-clause-labels c = rw c.split_at.ensures.back (relative_after_root _ c.args.self.now.is_name).1

pub returns-clause-octets : goal.returns-clause-octets
returns-clause-octets c =
    rw c.split_at.ensures.back (omega (arith, length-drop 1 c.args.self.now.slice.now, (reversed_size _ _ c.args.self.now.is_name).some))
