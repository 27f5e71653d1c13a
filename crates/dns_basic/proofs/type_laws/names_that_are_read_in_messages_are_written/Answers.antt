use Rattle.dns_record.proofs.CompressibleNames.{data_again_in}
use Rattle.dns_basic.proofs.type_laws.names_that_are_read_in_messages_are_written.Goals as goal

pub returns : goal.returns
returns g c =
    let met : g.claim c.lifetimes = assumption c in
    λ rtype contents at fields e. data_again_in g.N.ParseBytes.seen g.N.CanonicalName.name g.N.ParseBytes.reads_at _ ((g.met.N.ReadMessageName c.lifetimes met).read_at) rtype contents at fields e
