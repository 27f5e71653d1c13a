use Rattle.std.proofs.Common.{refl}
use Rattle.dns_basic.proofs.soa.Soa.map_names_by_ref.Goals as goal

pub returns-clause-names : goal.returns-clause-names
returns-clause-names g c = (_, _, record { shown = _; shows = refl; called = c.f-mname.ensures }, record { shown = _; shows = refl; called = c.f-rname.ensures })
