use Rattle.dns_rdata.specs.Edns.{edns_seen}
use Rattle.dns_message.proofs.EdnsBuilt.{edns_well}
use Rattle.dns_message.proofs.read_again.edns_records_are_well_formed.Goals as goal

pub returns : goal.returns
returns g c = λ r octets payload ext version flags are options. edns_well (edns_seen (λ _. octets) r) payload ext version flags are options
