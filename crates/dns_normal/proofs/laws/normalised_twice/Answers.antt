use Rattle.dns_normal.proofs.NormalOutcomes.{printed_accepted, printed_itself}
use Rattle.dns_normal.proofs.laws.normalised_twice.Goals as goal

pub returns : goal.returns
returns c = record { accepted = printed_accepted; itself = λ t printed other done prints. printed_itself t printed done prints other }
