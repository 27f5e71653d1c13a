use Rattle.dns_zone.proofs.SameZones.{records_printed, zones_same}
use Rattle.dns_zone.proofs.laws.same_zones.Goals as goal

pub returns : goal.returns
returns c = record { zones = zones_same; printed = records_printed }
