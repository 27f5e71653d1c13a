use Rattle.dns_zone.proofs.Members.{members_words}
use Rattle.dns_zone.proofs.laws.members_in_words.Goals as goal

pub returns : goal.returns
returns c = members_words
