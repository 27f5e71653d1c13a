use Rattle.std.proofs.Common.{length}
use Rattle.dns_label.proofs.Scanned.{Underway}
use Rattle.dns_label.proofs.text.scan.Given as goal

-- the octets of the label are read, and the rest is left
abbrev pub invariant-loop-octet : goal.invariant-loop-octet
invariant-loop-octet l = Underway l.text l.label l.rest

abbrev pub decreases-loop-octet : goal.decreases-loop-octet
decreases-loop-octet l = length l.rest
