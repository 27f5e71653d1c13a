use Rattle.std.proofs.Common.{◌≡◌, ℕ, List, Bool, true, false, refl, sym, ap, ◌∙◌, arith}
use Rattle.std.specs.Prelude.{not, nat_eq}
use Rattle.std.specs.Fmt.{decimal}
use Rattle.std.specs.Cmp.Lexicographic.{pointwise, bytes_decides}
use Rattle.dns_text.proofs.WordLemmas.{number_again, number_none}
use Rattle.dns_text.proofs.words.number_within.Goals.{then-number-limit-via-then-number-limit, then-number-limit-via-else-number-limit+then-ne}
use Rattle.dns_text.proofs.words.number_within.Goals as goal

same : (text word : List ℕ) → false ≡ not (pointwise nat_eq text word) → text ≡ word
same text word e = by (pointwise nat_eq text word) (bytes_decides text word).0 e where
  by : (b : Bool) → (b ≡ true → text ≡ word) → false ≡ not b → text ≡ word
  by true is e = is refl
  by false is e = absurd cc

differ : (text word : List ℕ) → true ≡ not (pointwise nat_eq text word) → text ≡ word → ⊥
differ text word e is = let yes = (bytes_decides text word).1 is in by (pointwise nat_eq text word) yes e where
  by : (b : Bool) → b ≡ true → true ≡ not b → ⊥
  by true y e = absurd cc
  by false y e = absurd cc

pub returns-in_default : goal.returns-in_default
returns-in_default c = sym (number_none c.args.limit c.args.word.now c.parse.result (omega arith) c.parse.ensures.value.0 (λ n e few is. let w = sym c.in_default.is ∙ e in absurd cc))

pub returns-then-number-limit : goal.returns-then-number-limit
returns-then-number-limit c =
    sym (number_none c.args.limit c.args.word.now c.parse.result (omega arith) c.parse.ensures.value.0 (λ n e few is.
    let w = sym c.in-Ok.is ∙ e in
    let number : c.in-Ok.number ≡ n = cc in
    elim c.then-number-limit.branch [
      | then-number-limit-via-then-number-limit v ↦ omega (arith, v.if-number-limit.true, number, few)
      | then-number-limit-via-else-number-limit+then-ne v ↦ differ v.format.result.now c.args.word.now v.if-ne.ensures (v.format.ensures.text ∙ ap decimal number ∙ sym is)
    ]))

pub returns : goal.returns
returns c = sym (number_again c.args.limit c.args.word.now c.in-Ok.number (omega arith) (omega (arith, c.if-number-limit.false)) (sym (same c.format.result.now c.args.word.now c.if-ne.ensures) ∙ c.format.ensures.text))
