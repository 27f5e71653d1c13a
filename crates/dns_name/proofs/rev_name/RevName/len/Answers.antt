use Rattle.std.proofs.Common.{ap, ◌∙◌, length}
use Rattle.dns_wire.proofs.Backward.{reversed_wire_long}
use Rattle.dns_name.proofs.rev_name.RevName.len.Goals as goal

pub returns-clause-wire : goal.returns-clause-wire
returns-clause-wire c = ap length c.as_bytes.ensures.reversed ∙ reversed_wire_long _
