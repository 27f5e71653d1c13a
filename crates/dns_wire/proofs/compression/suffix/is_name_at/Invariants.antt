use Rattle.std.proofs.Common.{length, ◌+◌}
use Rattle.dns_wire.specs.Names.{name_labels}
use Rattle.dns_wire.proofs.MatchingNames.{Matches}
use Rattle.dns_wire.proofs.compression.suffix.is_name_at.Given as goal

abbrev pub invariant-loop-size : goal.invariant-loop-size
invariant-loop-size l = Matches l.contents (name_labels l.name) l.place l.rest l.cursor.start l.cursor.at

-- a label makes the rest shorter, and a pointer leads back
abbrev pub decreases-loop-size : goal.decreases-loop-size
decreases-loop-size l = length l.rest + l.cursor.start
