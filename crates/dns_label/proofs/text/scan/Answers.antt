use Rattle.std.proofs.Common.{◌≤◌, length, ap, ◌∙◌, inl, inr, Ok, Err}
use Rattle.std.specs.Prelude.{not, IsOk, OnOk, Result}
use Rattle.std.proofs.lemmas.Bool.{cases_lt, both_ways}
use Rattle.std.proofs.lemmas.Result.{err_from_is_err_and}
use Rattle.dns_wire.specs.declared.error.TruncationError.{TruncationError}
use Rattle.dns_label.proofs.Scanned.{begun, gone_on, ended_scan, failed_scan, full_scan, next_shorter}
use Rattle.dns_label.proofs.text.scan.Goals as goal

after_ok : {P : Type 0} (r : Result (Unit {0}) TruncationError) → IsOk r → OnOk r P → P
after_ok (Ok done) fine p = p
after_ok (Err e) fine p = absurd cc

pub loop-octet-init : goal.loop-octet-init
loop-octet-init c = begun _ _ c.new-label.ensures

pub returns-in_err-octet : goal.returns-in_err-octet
returns-in_err-octet c =
    let p = err_from_is_err_and c.from_residual.result c.from_residual.ensures.1 in
    rw (p.1, p.2) (failed_scan _ _ _ _ c.loop-octet.invariant c.in_err-octet.ensures)

pub returns-then-is_err : goal.returns-then-is_err
returns-then-is_err c =
    let full : 63 ≤ length c.loop-octet.label =
    elim (cases_lt (length c.loop-octet.label) 63) [
      | inl room ↦ absurd (both_ways _ (c.is_err.ensures.negation ∙ ap not c.if-is_err.true) (c.push.ensures.fits.1 room))
      | inr none ↦ none
    ] in
    full_scan _ _ _ _ _ c.loop-octet.invariant (rw c.in-Some.is at c.in_ok-octet.ensures) full

pub loop-octet-smaller : goal.loop-octet-smaller
loop-octet-smaller c = next_shorter _ _ _ (rw c.in-Some.is at c.in_ok-octet.ensures)

pub loop-octet-preserved : goal.loop-octet-preserved
loop-octet-preserved c =
    let fine : IsOk c.push.result = c.is_err.ensures.negation ∙ ap not c.if-is_err.false in
    gone_on _ _ _ _ _ _ c.loop-octet.invariant (rw c.in-Some.is at c.in_ok-octet.ensures) (c.push.ensures.fits.0 fine) (after_ok _ fine c.push.ensures.appended)

pub returns : goal.returns
returns c = ended_scan _ _ _ c.loop-octet.invariant (rw c.in_default.is at c.in_ok-octet.ensures)
