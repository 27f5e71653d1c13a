use Rattle.dns_wire.proofs.Agreeing.{end_common, end_longest}
use Rattle.dns_wire.proofs.laws.common_suffixes.Goals as goal

pub returns : goal.returns
returns c = record { common = end_common; longest = end_longest }
