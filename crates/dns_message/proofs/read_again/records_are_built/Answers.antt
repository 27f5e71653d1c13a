use Rattle.dns_message.proofs.BuiltSo.{record_built}
use Rattle.dns_message.proofs.read_again.records_are_built.Goals as goal

pub returns : goal.returns
returns g c = λ name named r. record_built g.N.BuildInMessage.writes g.N.BuildInMessage.layout g.met.N.BuildInMessage.layout_matches name named r
