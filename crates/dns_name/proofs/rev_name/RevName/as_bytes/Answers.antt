use Rattle.dns_wire.proofs.Backward.{reversed_is, reversed_size}
use Rattle.dns_name.proofs.rev_name.RevName.as_bytes.Goals as goal

pub returns-clause-reversed : goal.returns-clause-reversed
returns-clause-reversed c = (reversed_is _ _ c.args.self.now.is_name).1

pub returns-clause-short : goal.returns-clause-short
returns-clause-short c = (reversed_size _ _ c.args.self.now.is_name).short
