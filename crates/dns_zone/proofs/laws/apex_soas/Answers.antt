use Rattle.dns_zone.proofs.Members.{soa_words}
use Rattle.dns_zone.proofs.laws.apex_soas.Goals as goal

pub returns : goal.returns
returns c = soa_words
