use Rattle.dns_wire.proofs.Following.{name_more, name_at_more}
use Rattle.dns_wire.proofs.laws.added_octets.Goals as goal

pub returns : goal.returns
returns c = record { follows = name_more; read = name_at_more }
