use Rattle.std.proofs.Common.{refl}
use Rattle.dns_basic.proofs.rp.Rp.map_names_by_ref.Goals as goal

pub returns : goal.returns
returns g c = record { names = (_, _, record { shown = _; shows = refl; called = c.f-mailbox.ensures }, record { shown = _; shows = refl; called = c.f-texts.ensures }) }
