use Rattle.dns_rdata.proofs.Forms.{come_back}
use Rattle.dns_rdata.proofs.edns_laws.edns_records_come_back.Goals as goal

pub returns : goal.returns
returns g c = come_back
