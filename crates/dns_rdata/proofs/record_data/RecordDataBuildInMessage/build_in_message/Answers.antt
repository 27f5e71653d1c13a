use Rattle.std.proofs.Common.{rules}
use Rattle.dns_rdata.proofs.PlainOctets.{written_plain_in}
use Rattle.dns_rdata.proofs.record_data.RecordDataBuildInMessage.build_in_message.Goals as goal

pub returns-in_default : goal.returns-in_default
returns-in_default g c = written_plain_in g.N.BuildInMessage.fits_in g.N.BuildInMessage.writes c.args.self.now (search rules) c.requires.known c.build_plain_at.ensures
