use Rattle.std.proofs.Common.{sym}
use Rattle.dns_message.proofs.name_reader.NameReader.read_whole_name.Goals as goal

pub invariant_of-self : goal.invariant_of-self
invariant_of-self c = rw (sym c.read_canonical_name.ensures.unchanged) at c.self.invariant
