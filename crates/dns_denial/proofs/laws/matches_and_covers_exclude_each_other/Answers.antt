use Rattle.dns_denial.proofs.Circle.{apart, covers, matches}
use Rattle.dns_denial.proofs.laws.matches_and_covers_exclude_each_other.Goals as goal

pub returns : goal.returns
returns c = record { matches = matches; covers = covers; apart = apart }
