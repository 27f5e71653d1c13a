use Rattle.std.proofs.Common.{arith}
use Rattle.std.proofs.lemmas.Bool.Decides.{nat_tests}
use Rattle.dns_chain.proofs.Chaining.{no_pointer}
use Rattle.dns_chain.proofs.final_targets.has_pointer.Goals as goal

pub returns-then-contents-place : goal.returns-then-contents-place
returns-then-contents-place c = record { none = λ low. no_pointer _ _ (λ within. absurd (omega (arith, within, c.if-contents-place.true))) }

pub returns : goal.returns
returns c = record { none = λ low. no_pointer _ _ (λ within. grind (arith, nat_tests, low)) }
