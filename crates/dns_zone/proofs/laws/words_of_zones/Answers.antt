use Rattle.dns_zone.proofs.ZoneOutcomes.{zone_words}
use Rattle.dns_zone.proofs.laws.words_of_zones.Goals as goal

pub returns : goal.returns
returns c = zone_words
