use Rattle.dns_wire.proofs.Successive.{octets_built}
use Rattle.dns_wire.proofs.in_message.U8BuildInMessage.build_all_in_message.Goals as goal

pub returns : goal.returns
returns c = octets_built c.requires.known c.put.ensures
