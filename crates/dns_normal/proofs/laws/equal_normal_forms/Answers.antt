use Rattle.dns_normal.proofs.NormalForms.{same_normal, other_normal}
use Rattle.dns_normal.proofs.NormalOutcomes.{same_printed}
use Rattle.dns_normal.proofs.laws.equal_normal_forms.Goals as goal

pub returns : goal.returns
returns c = record { same = same_normal; different = other_normal; printed = same_printed }
