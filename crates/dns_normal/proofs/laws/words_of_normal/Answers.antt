use Rattle.dns_normal.proofs.NormalOutcomes.{normal_words}
use Rattle.dns_normal.proofs.laws.words_of_normal.Goals as goal

pub returns : goal.returns
returns c = normal_words
