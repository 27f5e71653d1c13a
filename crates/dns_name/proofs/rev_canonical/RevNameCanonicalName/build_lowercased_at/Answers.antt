use Rattle.dns_wire.proofs.Backward.{reversed_size}
use Rattle.dns_wire.proofs.Lowered.{lower_wire}
use Rattle.dns_name.proofs.rev_canonical.RevNameCanonicalName.build_lowercased_at.Goals as goal

pub returns : goal.returns
returns c = rw (lower_wire _ (reversed_size _ _ c.args.self.now.is_name).name.sizes) at c.build_lowercase.ensures
