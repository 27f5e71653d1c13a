use Rattle.dns_wire.proofs.Several.{taken, parted}
use Rattle.dns_wire.proofs.Successive.{none_built, next_built, next_refused}
use Rattle.dns_wire.proofs.in_message.BuildInMessage.build_all_in_message.Goals as goal

pub loop-value-init : goal.loop-value-init
loop-value-init g c = none_built g.Self.BuildInMessage.fits_in g.Self.BuildInMessage.writes _ _ _ c.requires.room c.requires.known

pub loop-value-preserved : goal.loop-value-preserved
loop-value-preserved g c =
    rw (taken c.args.values.now c.loop-value.value-index c.value-item.result c.loop-value-test.true c.value-item.is)
    (next_built g.Self.BuildInMessage.fits_in g.Self.BuildInMessage.writes _ c.value-item.result c.loop-value.invariant _ _ _ c.in-Ok.ensures)

pub returns-in-Err : goal.returns-in-Err
returns-in-Err g c =
    next_refused g.Self.BuildInMessage.fits_in g.Self.BuildInMessage.writes _ c.value-item.result c.loop-value.invariant _ _ _ _ _ _ _
    (parted c.args.values.now c.loop-value.value-index c.value-item.result c.loop-value-test.true c.value-item.is)
    (rw c.places-count.ensures.exact at c.truncate.ensures.exact) c.in-Err.ensures
