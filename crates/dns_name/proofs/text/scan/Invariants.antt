use Rattle.std.proofs.Common.{length}
use Rattle.dns_name.proofs.NameTexts.{Underway}
use Rattle.dns_name.proofs.text.scan.Given as goal

-- the labels are read, and the rest is left
abbrev pub invariant-loop-last : goal.invariant-loop-last
invariant-loop-last l = Underway l.text l.labels l.rest

abbrev pub decreases-loop-last : goal.decreases-loop-last
decreases-loop-last l = length l.rest
