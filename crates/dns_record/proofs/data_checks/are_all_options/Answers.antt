use Rattle.std.proofs.Common.{arith, sym}
use Rattle.std.proofs.lemmas.Bool.Decides.{nat_tests}
use Rattle.dns_record.proofs.Opted.{option_shorter}
use Rattle.dns_record.proofs.TestedOctets.{options_start, options_step, options_bad, options_done}
use Rattle.dns_record.proofs.data_checks.are_all_options.Goals as goal

pub loop-rest-init : goal.loop-rest-init
loop-rest-init c = options_start _

pub returns-in_default : goal.returns-in_default
returns-in_default c = sym (options_bad _ _ c.loop-rest.invariant (grind (arith, nat_tests)) c.in_default.ensures)

pub loop-rest-smaller : goal.loop-rest-smaller
loop-rest-smaller c = option_shorter _ _ _ c.in-Some.ensures.1

pub loop-rest-preserved : goal.loop-rest-preserved
loop-rest-preserved c = options_step _ _ _ _ c.loop-rest.invariant (grind (arith, nat_tests)) c.in-Some.ensures.1

pub returns : goal.returns
returns c = sym (options_done _ _ c.loop-rest.invariant (grind (arith, nat_tests)))
