use Rattle.dns_record.proofs.CompressibleNames.{data_again}
use Rattle.dns_basic.proofs.type_laws.names_that_are_read_are_written.Goals as goal

pub returns : goal.returns
returns g c =
    let met : g.claim c.lifetimes = assumption c in
    λ rtype bytes fields e. data_again g.N.ParseBytes.seen g.N.CanonicalName.name g.N.ParseBytes.reads _ ((g.met.N.ReadName c.lifetimes met).read) rtype bytes fields e
