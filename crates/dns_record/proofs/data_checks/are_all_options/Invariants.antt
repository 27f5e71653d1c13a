use Rattle.std.proofs.Common.{length}
use Rattle.dns_record.proofs.TestedOctets.{OptionsLeft}
use Rattle.dns_record.proofs.data_checks.are_all_options.Given as goal

abbrev pub invariant-loop-rest : goal.invariant-loop-rest
invariant-loop-rest l = OptionsLeft l.bytes l.rest

abbrev pub decreases-loop-rest : goal.decreases-loop-rest
decreases-loop-rest l = length l.rest
