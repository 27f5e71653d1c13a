use Rattle.dns_wire.proofs.Parts.{builds_whole}
use Rattle.dns_wire.proofs.in_message.build_whole.Goals as goal

pub returns : goal.returns
returns g c = builds_whole c.requires.known c.build_at.ensures
