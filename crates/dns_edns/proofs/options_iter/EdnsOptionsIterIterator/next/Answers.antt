use Rattle.std.proofs.Common.{◌∙◌, sym, ap, length, arith}
use Rattle.dns_edns.proofs.CountedOptions.{options_after}
use Rattle.dns_edns.proofs.Items.{first_item, no_item}
use Rattle.dns_edns.proofs.options_iter.EdnsOptionsIterIterator.next.Goals as goal
use Rattle.dns_edns.proofs.options_iter.EdnsOptionsIterIterator.next.Goals.{in-Ok-known, in-Err-known}

pub returns-in-Err-clause-steps : goal.returns-in-Err-clause-steps
returns-in-Err-clause-steps c =
    let e = sym c.self.view_is ∙ no_item _ c.in-Err.ensures.exact in (e, e)

pub returns-after-known-clause-steps : goal.returns-after-known-clause-steps
returns-after-known-clause-steps c =
    elim c.match-known.branch [
      | in-Ok-known w ↦ rw w.result-is (sym c.self.view_is ∙ first_item _ _ _ _ c.in-Ok.ensures.exact w.in-Ok-known.ensures)
      | in-Err-known w ↦ rw w.result-is (sym c.self.view_is ∙ first_item _ _ _ _ c.in-Ok.ensures.exact w.in-Err-known.ensures)
    ]

pub returns-after-known-clause-goes : goal.returns-after-known-clause-goes
returns-after-known-clause-goes c =
    elim c.match-known.branch [
      | in-Ok-known w ↦ rw w.result-is (let e = sym c.self.view_is ∙ first_item _ _ _ _ c.in-Ok.ensures.exact w.in-Ok-known.ensures in record { on = λ _. (tt, tt, omega (arith, ap length e)); keeps = tt; rests = λ _. tt })
      | in-Err-known w ↦ rw w.result-is (let e = sym c.self.view_is ∙ first_item _ _ _ _ c.in-Ok.ensures.exact w.in-Err-known.ensures in record { on = λ _. (tt, tt, omega (arith, ap length e)); keeps = tt; rests = λ _. tt })
    ]

pub invariant_of-self-inside : goal.invariant_of-self-inside
invariant_of-self-inside c = (options_after _ _ _ c.self.inside.are_options c.in-Ok.ensures.exact, tt)
