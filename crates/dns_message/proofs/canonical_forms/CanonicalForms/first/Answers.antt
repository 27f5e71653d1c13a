use Rattle.std.proofs.Common.{◌∷◌, ap, arith, drop, length, length-take, take, sym, ◌∙◌}
use Rattle.std.specs.Prelude.{slice_get}
use Rattle.dns_message.specs.Forms.{forms_in}
use Rattle.dns_message.proofs.FormLemmas.{first_form, form_is, front_of, front_span, is_form_of_parts}
use Rattle.dns_message.proofs.canonical_forms.CanonicalForms.first.Goals as goal

pub slice_bounds-result-end : goal.slice_bounds-result-end
slice_bounds-result-end c =
    let inside = c.self.inside in
    let front = front_span inside.spans.items c.in_ok-span.span.now (c.in_ok-span.ensures.value ∙ ap (λ l. slice_get l 0) c.deref.ensures.value) in
    let next = first_form (forms_in inside.spans.items inside.octets.items) inside.owner_keys.items inside.octets.items inside.spans.items c.in_ok-span.span.now c.self.invariant front.0 in
    omega (arith, ap (λ s. s.owner_size) front.1, next.key_room, ap length c.deref-2.ensures.value, length-take c.in_ok-span.span.now.owner_size c.deref-2.result.now)

pub slice_bounds-result-end-2 : goal.slice_bounds-result-end-2
slice_bounds-result-end-2 c =
    let inside = c.self.inside in
    let front = front_span inside.spans.items c.in_ok-span.span.now (c.in_ok-span.ensures.value ∙ ap (λ l. slice_get l 0) c.deref.ensures.value) in
    let next = first_form (forms_in inside.spans.items inside.octets.items) inside.owner_keys.items inside.octets.items inside.spans.items c.in_ok-span.span.now c.self.invariant front.0 in
    omega (arith, ap (λ s. s.size) front.1, next.room, ap length c.deref-3.ensures.value, length-take c.in_ok-span.span.now.size c.deref-3.result.now)

pub invariant_of-result : goal.invariant_of-result
invariant_of-result c =
    let inside = c.self.inside in
    let front = front_span inside.spans.items c.in_ok-span.span.now (c.in_ok-span.ensures.value ∙ ap (λ l. slice_get l 0) c.deref.ensures.value) in
    let next = first_form (forms_in inside.spans.items inside.octets.items) inside.owner_keys.items inside.octets.items inside.spans.items c.in_ok-span.span.now c.self.invariant front.0 in
    is_form_of_parts next.k c.in_ok-span.span.now _ _ (front.1 ∙ next.span) ((λ i. take (front.1 i).owner_size (c.deref-2.ensures.value i)) ∙ next.key) ((λ i. take (front.1 i).size (c.deref-3.ensures.value i)) ∙ next.octets) next.form

pub returns : goal.returns
returns c =
    let inside = c.self.inside in
    let front = front_span inside.spans.items c.in_ok-span.span.now (c.in_ok-span.ensures.value ∙ ap (λ l. slice_get l 0) c.deref.ensures.value) in
    let next = first_form (forms_in inside.spans.items inside.octets.items) inside.owner_keys.items inside.octets.items inside.spans.items c.in_ok-span.span.now c.self.invariant front.0 in
    let is = form_is next.k c.in_ok-span.span.now (take c.in_ok-span.span.now.size c.deref-3.result.now) (front.1 ∙ next.span) ((λ i. take (front.1 i).size (c.deref-3.ensures.value i)) ∙ next.octets) next.form in
    (drop 1 (forms_in inside.spans.items inside.octets.items), sym c.self.view_is ∙ front_of (forms_in inside.spans.items inside.octets.items) next.k next.more ∙ ap (λ k. k ∷ drop 1 (forms_in inside.spans.items inside.octets.items)) (sym is))
