use Rattle.std.proofs.Common.{ℕ}
use Rattle.dns_name.proofs.CountedSteps.{Counted}
use Rattle.dns_name_tests.proofs.counting.label_types_read.Given as goal

-- that many label types have been read
abbrev pub invariant-loop-count : goal.invariant-loop-count
invariant-loop-count l = (size : ℕ) × Counted l.contents l.offset l.cursor.start l.cursor.at 0 l.count size
