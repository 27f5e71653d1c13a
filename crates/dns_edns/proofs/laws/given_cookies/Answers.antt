use Rattle.dns_edns.proofs.Given.{taken}
use Rattle.dns_edns.proofs.laws.given_cookies.Goals as goal

pub returns : goal.returns
returns c = taken
