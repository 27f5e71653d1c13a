use Rattle.dns_denial.proofs.Ungroups.{hash_words}
use Rattle.dns_denial.proofs.laws.hashes_are_read_back.Goals as goal

pub returns : goal.returns
returns c = hash_words
