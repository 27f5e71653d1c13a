use Rattle.dns_canon.specs.Making.{HasMade}
use Rattle.dns_canon.proofs.make.push_records.Given as goal

abbrev pub invariant-loop-index : goal.invariant-loop-index
invariant-loop-index l = HasMade l.index l.builder
