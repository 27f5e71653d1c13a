use Rattle.std.proofs.Common.{◌≡◌, ◌<◌, List, [], ◌∷◌, ℕ, Bool, true, false, length, ap, sym, ◌∙◌, arith}
use Rattle.std.proofs.lemmas.Result.{err_from_is_err_and}
use Rattle.dns_name.proofs.NameTexts.{begun, gone_on, ended_scan, failed_scan, overlong_scan, empty_scan, label_shorter}
use Rattle.dns_name.proofs.text.scan.Goals as goal

pub loop-last-init : goal.loop-last-init
loop-last-init c = begun _ _ c.new-labels.ensures

pub returns-in_err-last : goal.returns-in_err-last
returns-in_err-last c =
    let p = err_from_is_err_and c.from_residual.result c.from_residual.ensures.1 in
    rw (p.1, p.2) (failed_scan _ _ _ _ c.loop-last.invariant c.in_err-last.ensures)

pub returns-in_default : goal.returns-in_default
returns-in_default c = ended_scan _ _ _ _ _ c.loop-last.invariant c.in_ok-last.ensures c.in_default.ensures

pub returns-then-not-fit : goal.returns-then-not-fit
returns-then-not-fit c =
    overlong_scan _ _ _ _ _ c.loop-last.invariant (rw c.in-Some.ensures at c.in_ok-last.ensures) (sym c.fit.ensures ∙ c.if-not-fit.true)

pub returns-then-is_root : goal.returns-then-is_root
returns-then-is_root c =
    empty_scan _ _ _ _ _ c.loop-last.invariant (rw c.in-Some.ensures at c.in_ok-last.ensures) (sym c.fit.ensures ∙ c.if-not-fit.false)
    (sym c.as_label.ensures.contents ∙ c.is_root.ensures.0 c.if-is_root.true)

pub loop-last-smaller : goal.loop-last-smaller
loop-last-smaller c = omega (arith, label_shorter _ _ _ c.in_ok-last.ensures, ap length c.in-Some.ensures)

some_left : (label contents : List ℕ) (root : Bool) → root ≡ false → (contents ≡ [] → root ≡ true) → contents ≡ label → 0 < length label
some_left [] contents root not_root test same = absurd (let h = sym not_root ∙ test same in cc)
some_left (octet ∷ others) contents root not_root test same = omega arith

pub loop-last-preserved : goal.loop-last-preserved
loop-last-preserved c =
    gone_on _ _ _ _ _ _ c.loop-last.invariant (rw c.in-Some.ensures at c.in_ok-last.ensures) (sym c.fit.ensures ∙ c.if-not-fit.false)
    (some_left _ _ _ c.if-is_root.false c.is_root.ensures.1 c.as_label.ensures.contents) c.push.ensures
