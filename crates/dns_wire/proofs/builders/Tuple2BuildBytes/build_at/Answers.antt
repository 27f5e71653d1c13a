use Rattle.dns_wire.proofs.BuildingLemmas.{builds_then}
use Rattle.dns_wire.proofs.builders.Tuple2BuildBytes.build_at.Goals as goal

pub returns : goal.returns
returns g c = builds_then c.in_ok-middle.ensures.ok.0 c.in_ok-middle.ensures.ok.1 c.build_at-2.ensures
