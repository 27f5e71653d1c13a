use Rattle.std.proofs.Common.{◌≡◌, ◌≤◌, ◌+◌, length}
use Rattle.dns_name.specs.Unparsed.{unparsed_of}
use Rattle.dns_name.proofs.read_name.UnparsedNameParseName.label_count.Given as goal

abbrev pub invariant-loop-label : goal.invariant-loop-label
invariant-loop-label l = (l.count + length (unparsed_of l.rest.slice.now).0 ≡ length (unparsed_of l.self.slice.now).0) × (length (unparsed_of l.self.slice.now).0 ≤ 127)

abbrev pub decreases-loop-label : goal.decreases-loop-label
decreases-loop-label l = length (unparsed_of l.rest.slice.now).0
