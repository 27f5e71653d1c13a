use Rattle.std.proofs.Common.{◌++◌, ◌∙◌, List, ℕ, [], ◌∷◌, ap, drop, length}
use Rattle.std.specs.Int.{w64, from_be_bytes}
use Rattle.dns_message.proofs.FrontLemmas.{eight_spelled, fewer_spelled}
use Rattle.dns_message.proofs.form_order.front_of.Goals as goal

pub returns-in-Some-clause-front : goal.returns-in-Some-clause-front
returns-in-Some-clause-front c =
    let first = c.in-Some.ensures.cases in
    c.from_be_bytes.ensures ∙ ap (λ (l : List ℕ). from_be_bytes w64 l) first.same ∙ eight_spelled c.args.octets.now first.enough

pub returns-clause-front : goal.returns-clause-front
returns-clause-front c =
    c.from_be_bytes-2.ensures
    ∙ ap (λ (l : List ℕ). from_be_bytes w64 (l ++ drop (length c.args.octets.now) (0 ∷ 0 ∷ 0 ∷ 0 ∷ 0 ∷ 0 ∷ 0 ∷ 0 ∷ []))) c.copy_from_slice.ensures.after
    ∙ fewer_spelled c.args.octets.now c.in_default.ensures.cases
