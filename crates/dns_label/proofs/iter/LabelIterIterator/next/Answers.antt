use Rattle.std.proofs.Common.{◌∙◌, sym, ap, length, arith}
use Rattle.dns_label.proofs.FilledLabels.{first_in, last_label}
use Rattle.dns_label.proofs.iter.LabelIterIterator.next.Goals as goal

pub returns-in-Err-clause-steps : goal.returns-in-Err-clause-steps
returns-in-Err-clause-steps c =
    let e = sym c.self.view_is ∙ last_label _ c.self.invariant c.in-Err.ensures.exact in (e, e)

pub invariant_of-self : goal.invariant_of-self
invariant_of-self c = (first_in _ _ _ c.self.invariant c.in-Ok.ensures.exact).left

pub returns-in-Ok-clause-steps : goal.returns-in-Ok-clause-steps
returns-in-Ok-clause-steps c = rw (← c.self.view_is) (first_in _ _ _ c.self.invariant c.in-Ok.ensures.exact).first

pub returns-in-Ok-clause-goes : goal.returns-in-Ok-clause-goes
returns-in-Ok-clause-goes c =
    let e = sym c.self.view_is ∙ (first_in _ _ _ c.self.invariant c.in-Ok.ensures.exact).first in
    record { on = λ _. (tt, tt, omega (arith, ap length e)); keeps = tt; rests = λ _. tt }
