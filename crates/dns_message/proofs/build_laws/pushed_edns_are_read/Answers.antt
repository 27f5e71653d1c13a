use Rattle.dns_message.proofs.EdnsBuilt.{pushed_edns}
use Rattle.dns_message.proofs.build_laws.pushed_edns_are_read.Goals as goal

pub returns : goal.returns
returns g c = λ draft items r octets long few read fits payload ext version flags are options. pushed_edns draft items r octets long few read fits payload ext version flags are options
