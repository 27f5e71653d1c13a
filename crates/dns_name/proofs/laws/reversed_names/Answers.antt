use Rattle.dns_wire.proofs.Backward.{reversed_is, reversed_read, reversed_wire_long}
use Rattle.dns_name.proofs.laws.reversed_names.Goals as goal

pub returns : goal.returns
returns c = record { spelled = reversed_is; read = reversed_read; as_long = reversed_wire_long }
