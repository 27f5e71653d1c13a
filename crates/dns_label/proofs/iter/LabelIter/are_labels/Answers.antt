use Rattle.std.proofs.Common.{◌≡◌, ◌∙◌, ℕ, List, [], ◌∷◌, length, Bool, false, refl, sym, arith}
use Rattle.std.specs.Prelude.{◌↔◌, ◌==◌, IsTrue}
use Rattle.std.proofs.lemmas.Bool.Decides.{nat_tests}
use Rattle.dns_label.proofs.FilledLabels.{following_label, nothing_left}
use Rattle.dns_label.proofs.iter.LabelIter.are_labels.Goals as goal

emptied : (octets : List ℕ) (r : Bool) → r ≡ (length octets == 0) → IsTrue r ↔ (octets ≡ [])
emptied [] r e = (λ _. refl, λ _. e)
emptied (x ∷ rest) r e =
    let some : (length (x ∷ rest) == 0) ≡ false = grind (arith, nat_tests) in
    (λ t. absurd (let h = sym t ∙ e ∙ some in cc), λ none. absurd cc)

pub loop-label-smaller : goal.loop-label-smaller
loop-label-smaller c = (following_label _ _ _ c.in-Ok.ensures.exact).1

pub loop-label-preserved : goal.loop-label-preserved
loop-label-preserved c =
    let step = following_label _ _ _ c.in-Ok.ensures.exact in
    (λ are. step.0.0 (c.loop-label.invariant.0 are), λ are. c.loop-label.invariant.1 (step.0.1 are))

pub returns : goal.returns
returns c =
    let left = nothing_left _ c.in_default.ensures.exact in
    let test = emptied _ _ c.is_empty.ensures in
    (λ t. c.loop-label.invariant.1 (left.1 (test.0 t)), λ are. test.1 (left.0 (c.loop-label.invariant.0 are)))
