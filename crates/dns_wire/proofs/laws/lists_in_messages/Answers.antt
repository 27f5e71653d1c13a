use Rattle.dns_wire.specs.LayoutLemmas.{list_writes-one, list_writes-append}
use Rattle.dns_wire.proofs.Successive.{each_fits, fits_each}
use Rattle.dns_wire.proofs.laws.lists_in_messages.Goals as goal

pub returns-clause-one : goal.returns-clause-one
returns-clause-one g c = list_writes-one g.T.BuildInMessage.writes

pub returns-clause-cut : goal.returns-clause-cut
returns-clause-cut g c = list_writes-append g.T.BuildInMessage.writes

pub returns-clause-fits : goal.returns-clause-fits
returns-clause-fits g c =
    let fits = g.T.BuildInMessage.fits_in in
    let writes = g.T.BuildInMessage.writes in
    λ values contents places. (each_fits fits writes values contents places, fits_each fits writes values contents places)
