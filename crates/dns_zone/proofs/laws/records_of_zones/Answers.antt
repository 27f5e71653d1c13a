use Rattle.dns_zone.proofs.MemberForms.{of_zone_words}
use Rattle.dns_zone.proofs.laws.records_of_zones.Goals as goal

pub returns : goal.returns
returns c = of_zone_words
