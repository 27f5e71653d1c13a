use Rattle.dns_zone.proofs.TextRecords.{text_streams, zone_streams}
use Rattle.dns_zone.proofs.laws.equal_streams.Goals as goal

pub returns : goal.returns
returns c = record { records = zone_streams; texts = text_streams }
