use Rattle.dns_zone.proofs.ZoneOutcomes.{same_printed, same_texts}
use Rattle.dns_zone.proofs.laws.equal_zones.Goals as goal

pub returns : goal.returns
returns c = record { texts = same_texts; printed = same_printed }
