use Rattle.std.proofs.Common.{◌∙◌, ◌≡◌, List, ap, arith, length, refl, sym, ◌++◌, ◌∷◌, []}
use Rattle.std.proofs.lemmas.List.{length-append}
use Rattle.std.specs.Prelude.{filter}
use Rattle.dns_message.specs.Order.{SortKey}
use Rattle.dns_zone.specs.Zone.{is_soa_form}
use Rattle.dns_zonemd.specs.SortedZone.{firsts}
use Rattle.dns_zonemd.specs.States.{is_alike_first, last_of}
use Rattle.dns_zonemd.proofs.StateLemmas.{alike_more, kept_more, one_last, other_more}
use Rattle.dns_zonemd.proofs.state.keep_soa.Goals as goal

pub returns-then-is_alike_first-clause-kept : goal.returns-then-is_alike_first-clause-kept
returns-then-is_alike_first-clause-kept c = λ ks h.
    let k = c.args.form.now in
    let p = is_soa_form c.args.apex.now in
    let alike = ap (λ (l : List SortKey). is_alike_first (last_of l) k) (sym h.0) ∙ ap (λ (l : List SortKey). is_alike_first l k) (one_last c.args.soa.now h.1) ∙ sym c.if-is_alike_first.ensures in
    (h.0 ∙ sym (ap firsts (kept_more p ks k (sym c.if-not-is_soa_of.ensures)) ∙ alike_more (filter p ks) k alike), h.1)

pub returns-then-not-is_empty-clause-refused : goal.returns-then-not-is_empty-clause-refused
returns-then-not-is_empty-clause-refused c = λ ks h.
    let k = c.args.form.now in
    let p = is_soa_form c.args.apex.now in
    let other = ap (λ (l : List SortKey). is_alike_first (last_of l) k) (sym h.0) ∙ ap (λ (l : List SortKey). is_alike_first l k) (one_last c.args.soa.now h.1) ∙ sym c.if-is_alike_first.ensures in
    let all = ap firsts (kept_more p ks k (sym c.if-not-is_soa_of.ensures)) ∙ other_more (filter p ks) k other in
    let some : length c.args.soa.now ≡ 0 → ⊥ = λ none. (let clash = c.if-not-is_empty.ensures.1 none in absurd cc) in
    omega (arith, ap length all, length-append (firsts (filter p ks)) (k ∷ []), ap length h.0, h.1, some)

pub returns-clause-kept : goal.returns-clause-kept
returns-clause-kept c = λ ks h.
    let k = c.args.form.now in
    let p = is_soa_form c.args.apex.now in
    let other = ap (λ (l : List SortKey). is_alike_first (last_of l) k) (sym h.0) ∙ ap (λ (l : List SortKey). is_alike_first l k) (one_last c.args.soa.now h.1) ∙ sym c.if-is_alike_first.ensures in
    let all = ap firsts (kept_more p ks k (sym c.if-not-is_soa_of.ensures)) ∙ other_more (filter p ks) k other in
    let none = c.if-not-is_empty.ensures.0 refl in
    (c.in_ok-push.ensures.added ∙ ap (λ (l : List SortKey). l ++ k ∷ []) h.0 ∙ sym all, omega (arith, ap length c.in_ok-push.ensures.added, length-append c.args.soa.now (k ∷ []), none))
