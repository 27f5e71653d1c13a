use Rattle.dns_wire.proofs.Backward.{reversed_size}
use Rattle.dns_name.proofs.rev_canonical.RevNameCanonicalName.composed_size.Goals as goal

pub returns-clause-name : goal.returns-clause-name
returns-clause-name c = (reversed_size _ _ c.args.self.now.is_name).name
