use Rattle.dns_message.proofs.Collapsing.{alike_tested, alike_octets}
use Rattle.dns_message.proofs.laws.alike_records.Goals as goal

pub returns : goal.returns
returns c = record { tested = alike_tested; octets = alike_octets }
