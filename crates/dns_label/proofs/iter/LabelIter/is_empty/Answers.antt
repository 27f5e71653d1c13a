use Rattle.std.proofs.Common.{◌≡◌, ◌∙◌, List, [], ◌∷◌, length, ℕ, Bool, false, sym, arith}
use Rattle.std.specs.Prelude.{◌↔◌, ◌==◌, IsTrue}
use Rattle.std.proofs.lemmas.Bool.Decides.{nat_tests}
use Rattle.dns_label.specs.Labels.{AreLabels, sequence_labels}
use Rattle.dns_label.proofs.FilledLabels.{none_left, nothing_in}
use Rattle.dns_label.proofs.iter.LabelIter.is_empty.Goals as goal

empty_test : (octets : List ℕ) (r : Bool) → r ≡ (length octets == 0) → AreLabels octets → IsTrue r ↔ (sequence_labels octets ≡ [])
empty_test [] r e is = (λ _. nothing_in, λ _. e)
empty_test (x ∷ rest) r e is =
    let some : (length (x ∷ rest) == 0) ≡ false = grind (arith, nat_tests) in
    (λ t. absurd (let h = sym t ∙ e ∙ some in cc), λ none. absurd (let h = none_left (x ∷ rest) is none in cc))

pub returns : goal.returns
returns c = rw (← c.self.view_is) (empty_test _ _ c.is_empty.ensures c.self.invariant)
