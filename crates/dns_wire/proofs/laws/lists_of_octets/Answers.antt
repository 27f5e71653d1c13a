use Rattle.dns_wire.proofs.Several.{themselves}
use Rattle.dns_wire.proofs.Successive.{octets_listed}
use Rattle.dns_wire.proofs.laws.lists_of_octets.Goals as goal

pub returns-clause-plain : goal.returns-clause-plain
returns-clause-plain c = themselves

pub returns-clause-in_message : goal.returns-clause-in_message
returns-clause-in_message c = octets_listed
