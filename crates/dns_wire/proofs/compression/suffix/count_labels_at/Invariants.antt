use Rattle.std.proofs.Common.{◌+◌, ◌-◌}
use Rattle.dns_wire.proofs.MatchingNames.{Counting}
use Rattle.dns_wire.proofs.compression.suffix.count_labels_at.Given as goal

abbrev pub invariant-loop-seen : goal.invariant-loop-seen
invariant-loop-seen l = Counting l.contents l.place l.most l.seen l.cursor.start l.cursor.at

-- a label is counted, and a pointer leads back
abbrev pub decreases-loop-seen : goal.decreases-loop-seen
decreases-loop-seen l = (l.most - l.seen) + l.cursor.start
