use Rattle.dns_denial.proofs.Outcomes.{same_printed}
use Rattle.dns_denial.proofs.laws.equal_outputs.Goals as goal

pub returns : goal.returns
returns c = same_printed
