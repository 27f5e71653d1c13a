use Rattle.std.proofs.Common.{rules}
use Rattle.dns_rdata.proofs.PlainOctets.{written_plain}
use Rattle.dns_rdata.proofs.record_data.RecordDataBuildBytes.build_at.Goals as goal

pub returns-in_default : goal.returns-in_default
returns-in_default g c = written_plain g.N.BuildBytes.fits g.N.BuildBytes.octets c.args.self.now (search rules) c.build_plain_at.ensures
