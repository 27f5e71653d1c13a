use Rattle.dns_message.proofs.Whole.{canonical_wire_back}
use Rattle.dns_message.proofs.laws.canonical_records_are_split_back.Goals as goal

pub returns : goal.returns
returns c = canonical_wire_back
