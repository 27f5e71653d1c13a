use Rattle.std.proofs.Common.{rules}
use Rattle.dns_message.proofs.name_reader.NameReader.new.Goals as goal

pub invariant_of-result : goal.invariant_of-result
invariant_of-result c = (search rules, c.cleared.ensures c.new.result)
