use Rattle.std.proofs.Common.{◌∙◌, ◌+◌, ◌∷◌, sym, ap, length, arith}
use Rattle.dns_nsec.specs.Seen.{window_seen}
use Rattle.dns_nsec.proofs.NamedTypes.{coming, coming_found, coming_none, coming_next}
use Rattle.dns_nsec.proofs.type_iter.TypeIterIterator.next.Goals as goal

pub loop-place-init : goal.loop-place-init
loop-place-init c = (sym c.self.view_is, sym c.self.view_is, c.self.invariant.0, c.self.invariant.0, c.self.invariant.1)

pub next_set-requires : goal.next_set-requires
next_set-requires c = c.loop-place.invariant.2

pub invariant_of-self : goal.invariant_of-self
invariant_of-self c = (c.loop-place.invariant.2, omega (arith, c.in-Some.ensures.0))

pub returns-in-Some-clause-steps : goal.returns-in-Some-clause-steps
returns-in-Some-clause-steps c =
    let w = c.loop-place.window in
    c.loop-place.invariant.0
    ∙ coming_found w.number c.loop-place.from c.in-Some.place w.bits.now c.loop-place.rest.slice.now c.in-Some.ensures.1
    ∙ ap (λ n. n ∷ coming w.number (c.in-Some.place + 1) w.bits.now c.loop-place.rest.slice.now) (sym c.rtype.ensures)

pub returns-in-Some-clause-goes : goal.returns-in-Some-clause-goes
returns-in-Some-clause-goes c =
    let w = c.loop-place.window in
    let e = c.loop-place.invariant.0 ∙ coming_found w.number c.loop-place.from c.in-Some.place w.bits.now c.loop-place.rest.slice.now c.in-Some.ensures.1 in
    record { on = λ _. (tt, tt, omega (arith, ap length e)); keeps = tt; rests = λ _. tt }

pub invariant_of-self-in_err-trailing : goal.invariant_of-self-in_err-trailing
invariant_of-self-in_err-trailing c = (c.loop-place.invariant.3, c.loop-place.invariant.4)

pub returns-in_err-trailing-clause-steps : goal.returns-in_err-trailing-clause-steps
returns-in_err-trailing-clause-steps c =
    let w = c.loop-place.window in
    let e = c.loop-place.invariant.0 ∙ coming_none w.number c.loop-place.from w.bits.now c.loop-place.rest.slice.now c.in_default.ensures c.in_err-trailing.ensures.windows in
    rw c.from_residual.ensures (e, sym c.loop-place.invariant.1 ∙ e)

pub loop-place-smaller : goal.loop-place-smaller
loop-place-smaller c = c.in_ok-trailing.ensures.shorter

pub loop-place-preserved : goal.loop-place-preserved
loop-place-preserved c =
    let w = c.loop-place.window in (
      c.loop-place.invariant.0 ∙ coming_next w.number c.loop-place.from w.bits.now c.loop-place.rest.slice.now c.in_ok-trailing.later.slice.now (window_seen c.in_ok-trailing.trailing) c.in_default.ensures c.in_ok-trailing.ensures.windows,
      c.loop-place.invariant.1,
      c.in_ok-trailing.ensures.few,
      c.loop-place.invariant.3,
      c.loop-place.invariant.4,
    )
