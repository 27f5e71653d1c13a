use Rattle.dns_message.proofs.CanonicalListSameness.{same_lists}
use Rattle.dns_message.proofs.laws.same_records.Goals as goal

pub returns : goal.returns
returns c = same_lists
