use Rattle.std.proofs.Common.{◌≡◌, drop}
use Rattle.dns_wire.specs.Names.{name_labels, wire}
use Rattle.dns_denial.proofs.signed.after_labels.Given as goal

-- the labels that are not passed
abbrev pub invariant-loop-passed : goal.invariant-loop-passed
invariant-loop-passed l = l.rest ≡ wire (drop l._passed (name_labels l.name))
