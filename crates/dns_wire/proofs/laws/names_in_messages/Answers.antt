use Rattle.dns_wire.proofs.Following.{name_at_one, name_at_name, segment_ends}
use Rattle.dns_wire.proofs.laws.names_in_messages.Goals as goal

pub returns : goal.returns
returns c = record { one = name_at_one; name = name_at_name; within = λ contents at labels end is. segment_ends contents is.reads }
