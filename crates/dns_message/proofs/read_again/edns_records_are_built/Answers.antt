use Rattle.dns_message.proofs.EdnsBuilt.{edns_built}
use Rattle.dns_message.proofs.read_again.edns_records_are_built.Goals as goal

pub returns : goal.returns
returns g c = λ r octets contents places few ext version flags. edns_built r octets contents places few ext version flags
