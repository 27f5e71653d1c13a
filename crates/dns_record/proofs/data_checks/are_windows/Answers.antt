use Rattle.std.proofs.Common.{◌≡◌, ◌+◌, ℕ, ap, arith, sym, subst, ◌∙◌}
use Rattle.std.proofs.lemmas.Bool.Decides.{nat_tests}
use Rattle.dns_record.proofs.TestedOctets.{WindowsLeft, windows_start, windows_step, windows_bad, windows_done}
use Rattle.dns_record.proofs.data_checks.are_windows.Goals as goal

pub loop-rest-init : goal.loop-rest-init
loop-rest-init c = windows_start c.args.bytes.now

pub returns-in_default : goal.returns-in_default
returns-in_default c = sym (windows_bad _ _ _ c.loop-rest.invariant (grind (arith, nat_tests)) c.in_default.ensures)

pub loop-rest-preserved : goal.loop-rest-preserved
loop-rest-preserved c =
    let found = c.in-Some.ensures in
    let next : found.0.number + 1 ≡ c.from-least.result + 1 = ap (λ (n : ℕ). n + 1) (found.2 ∙ sym c.from-least.ensures) in
    subst (λ (n : ℕ). WindowsLeft c.args.bytes.now n c.in-Some.trailing.now) next (windows_step _ _ _ _ _ c.loop-rest.invariant (grind (arith, nat_tests)) found.3 found.1)

pub returns : goal.returns
returns c = sym (windows_done _ _ _ c.loop-rest.invariant (grind (arith, nat_tests)))
