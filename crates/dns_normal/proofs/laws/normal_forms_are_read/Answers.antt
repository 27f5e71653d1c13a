use Rattle.dns_normal.proofs.NormalForms.{normal_octets, normal_read}
use Rattle.dns_normal.proofs.laws.normal_forms_are_read.Goals as goal

pub returns : goal.returns
returns c = record { octets = normal_octets; read = normal_read }
