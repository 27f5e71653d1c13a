use Rattle.dns_name.proofs.Continued.{continued, read_on}
use Rattle.dns_name.proofs.laws.unparsed_names_continue.Goals as goal

pub returns : goal.returns
returns c = λ contents start labels end. (continued contents start labels end, read_on contents start labels end)
