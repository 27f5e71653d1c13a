use Rattle.std.proofs.Common.{◌∙◌, sym, arith}
use Rattle.dns_chain.specs.Chains.Leads.{stays}
use Rattle.dns_chain.proofs.Chaining.{final_pointer}
use Rattle.dns_chain.proofs.final_targets.final_target_after.Goals as goal

pub returns-in-Ok-Pointer : goal.returns-in-Ok-Pointer
returns-in-Ok-Pointer c =
    let exact = rw c.in-Ok-Pointer.field-0-is at c.in-Ok-Pointer.ensures.exact in
    let fits = rw c.in-Ok-Pointer.field-0-is at c.in-Ok-Pointer.ensures.fits in
    final_pointer _ _ _ _ (rw c.from-at.ensures at exact) (c.requires.before c.in-Ok-Pointer.target (omega (arith, fits.1, c.requires.next)))

pub returns-in-Ok-Root : goal.returns-in-Ok-Root
returns-in-Ok-Root c =
    let exact = rw c.from-at.ensures at rw c.in-Ok-Root.field-0-is at c.in-Ok-Root.ensures.exact in
    record { reached = stays; last = λ target is. absurd (let h = sym exact ∙ is in cc) }

pub returns-in-Ok-Label : goal.returns-in-Ok-Label
returns-in-Ok-Label c =
    let exact = rw c.from-at.ensures at rw c.in-Ok-Label.field-0-is at c.in-Ok-Label.ensures.exact in
    record { reached = stays; last = λ target is. absurd (let h = sym exact ∙ is in cc) }

pub returns-in-Err : goal.returns-in-Err
returns-in-Err c =
    let exact = rw c.from-at.ensures at c.in-Err.ensures.exact in
    record { reached = stays; last = λ target is. absurd (let h = sym exact ∙ is in cc) }
