use Rattle.dns_canon.proofs.Parting.{parts_words}
use Rattle.dns_canon.proofs.laws.parted_texts.Goals as goal

pub returns : goal.returns
returns c = parts_words
