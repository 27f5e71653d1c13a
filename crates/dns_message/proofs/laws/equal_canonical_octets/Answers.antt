use Rattle.dns_message.proofs.Whole.{canonical_wire_same}
use Rattle.dns_message.proofs.laws.equal_canonical_octets.Goals as goal

pub returns : goal.returns
returns c = canonical_wire_same
