use Rattle.dns_wire.proofs.Following.{name_at_is, name_at_finds}
use Rattle.dns_wire.proofs.laws.names_follow_pointers.Goals as goal

pub returns : goal.returns
returns c = record { follows = name_at_is; read = name_at_finds }
