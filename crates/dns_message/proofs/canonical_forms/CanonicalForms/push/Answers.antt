use Rattle.std.proofs.Common.{◌++◌, ◌∷◌, [], List, ap, subst, ◌∙◌}
use Rattle.dns_message.specs.Forms.{IsForm, form_owner_key}
use Rattle.dns_message.specs.Order.{SortKey, octets_of_key}
use Rattle.dns_message.proofs.FormLemmas.{form_put}
use Rattle.dns_message.proofs.canonical_forms.CanonicalForms.push.Goals as goal

pub invariant_of-self-2 : goal.invariant_of-self-2
invariant_of-self-2 c =
    let inside = c.self.inside in
    let keys = rw c.unwrap.ensures at c.extend_from_slice.ensures.items in
    let octets = rw c.unwrap-2.ensures at c.extend_from_slice-2.ensures.items in
    let spans = rw c.unwrap-3.ensures at c.push.ensures.items in
    (form_put c.args.form.now inside.owner_keys.items inside.octets.items inside.spans.items _ _ _ c.self.invariant (subst IsForm c.form.view_is c.form.invariant.2)
    (keys ∙ (λ i. c.in_ok-reserve.ensures.items i ++ (c.form.invariant.0 ∙ ap form_owner_key c.form.view_is) i))
    (octets ∙ (λ i. c.in_ok-reserve-2.ensures.items i ++ (c.form.invariant.1 ∙ ap octets_of_key c.form.view_is) i))
    (spans ∙ (λ i. c.in_ok-reserve-3.ensures.items i ++ c.span.ensures i ∷ []))).1

pub returns-clause-added : goal.returns-clause-added
returns-clause-added c =
    let inside = c.self.inside in
    let keys = rw c.unwrap.ensures at c.extend_from_slice.ensures.items in
    let octets = rw c.unwrap-2.ensures at c.extend_from_slice-2.ensures.items in
    let spans = rw c.unwrap-3.ensures at c.push.ensures.items in
    (form_put c.args.form.now inside.owner_keys.items inside.octets.items inside.spans.items _ _ _ c.self.invariant (subst IsForm c.form.view_is c.form.invariant.2)
    (keys ∙ (λ i. c.in_ok-reserve.ensures.items i ++ (c.form.invariant.0 ∙ ap form_owner_key c.form.view_is) i))
    (octets ∙ (λ i. c.in_ok-reserve-2.ensures.items i ++ (c.form.invariant.1 ∙ ap octets_of_key c.form.view_is) i))
    (spans ∙ (λ i. c.in_ok-reserve-3.ensures.items i ++ c.span.ensures i ∷ []))).0
    ∙ ap (λ (l : List SortKey). l ++ c.args.form.now ∷ []) c.self.view_is
