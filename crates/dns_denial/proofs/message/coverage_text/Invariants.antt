use Rattle.std.proofs.Common.{◌≡◌, flat_map, take}
use Rattle.dns_wire.specs.Names.{name_labels}
use Rattle.dns_denial.specs.Coverage.{coverage_line}
use Rattle.dns_denial.proofs.message.coverage_text.Given as goal

-- the lines of the records so far
abbrev pub invariant-loop-found : goal.invariant-loop-found
invariant-loop-found l = l.text.items ≡ flat_map (coverage_line (name_labels l.name.slice.now)) (take l.found-index l.forms)
