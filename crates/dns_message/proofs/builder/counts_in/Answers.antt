use Rattle.std.proofs.Common.{◌∙◌, ℕ, List, [], ◌∷◌, ap, ap₂}
use Rattle.dns_message.proofs.builder.counts_in.Goals as goal

pub returns : goal.returns
returns c =
    ap₂ (λ (a : ℕ) (l : List ℕ). a ∷ l) c.get.ensures (ap₂ (λ (a : ℕ) (l : List ℕ). a ∷ l) c.get-2.ensures (ap₂ (λ (a : ℕ) (l : List ℕ). a ∷ l) c.get-3.ensures (ap (λ (a : ℕ). a ∷ []) c.get-4.ensures)))
    ∙ c.header.ensures.counts
