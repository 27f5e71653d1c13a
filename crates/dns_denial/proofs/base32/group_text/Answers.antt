use Rattle.dns_denial.proofs.Groups.{one_group}
use Rattle.dns_denial.proofs.base32.group_text.Goals as goal

pub returns : goal.returns
returns c = let whole = one_group c.args.group.now c.requires in cc
