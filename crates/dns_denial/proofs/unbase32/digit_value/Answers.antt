use Rattle.std.proofs.Common.{arith}
use Rattle.std.proofs.lemmas.Bool.Decides.{nat_tests}
use Rattle.dns_denial.specs.Unbase32.{digit_value}
use Rattle.dns_denial.proofs.unbase32.digit_value.Goals as goal

pub returns-in-48-to-57-clause-value : goal.returns-in-48-to-57-clause-value
unfolding digit_value
returns-in-48-to-57-clause-value c = grind (arith, nat_tests)

pub returns-in-97-to-118-clause-value : goal.returns-in-97-to-118-clause-value
unfolding digit_value
returns-in-97-to-118-clause-value c = grind (arith, nat_tests)

pub returns-in_default-clause-value : goal.returns-in_default-clause-value
unfolding digit_value
returns-in_default-clause-value c = grind (arith, nat_tests)

pub returns-in_default-2-clause-value : goal.returns-in_default-2-clause-value
unfolding digit_value
returns-in_default-2-clause-value c = grind (arith, nat_tests)

pub returns-in_default-3-clause-value : goal.returns-in_default-3-clause-value
unfolding digit_value
returns-in_default-3-clause-value c = grind (arith, nat_tests)
