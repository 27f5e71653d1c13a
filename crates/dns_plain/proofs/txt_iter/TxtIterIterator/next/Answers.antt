use Rattle.std.proofs.Common.{◌∙◌, sym, ap, length, arith}
use Rattle.dns_plain.proofs.TxtLemmas.{first_string, no_string}
use Rattle.dns_plain.proofs.txt_iter.TxtIterIterator.next.Goals as goal

pub returns-in-Err-clause-steps : goal.returns-in-Err-clause-steps
returns-in-Err-clause-steps c =
    let e = sym c.self.view_is ∙ no_string _ c.in-Err.ensures.exact in (e, e)

pub returns-in-Ok-clause-steps : goal.returns-in-Ok-clause-steps
returns-in-Ok-clause-steps c = sym c.self.view_is ∙ first_string _ _ _ c.in-Ok.ensures.exact

pub returns-in-Ok-clause-goes : goal.returns-in-Ok-clause-goes
returns-in-Ok-clause-goes c =
    let e = sym c.self.view_is ∙ first_string _ _ _ c.in-Ok.ensures.exact in
    record { on = λ _. (tt, tt, omega (arith, ap length e)); keeps = tt; rests = λ _. tt }
