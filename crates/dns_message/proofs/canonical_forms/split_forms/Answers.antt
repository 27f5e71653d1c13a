use Rattle.std.proofs.Common.{◌++◌, ◌∷◌, [], sym, ◌∙◌}
use Rattle.dns_message.specs.Forms.{forms_in}
use Rattle.dns_message.proofs.FormLemmas.{form_is, is_form_of_parts, next_form}
use Rattle.dns_message.proofs.canonical_forms.split_forms.Goals as goal

pub split_at-requires : goal.split_at-requires
split_at-requires c =
    (next_form (forms_in c.args.spans.now c.args.octets.now) c.args.owner_keys.now c.args.octets.now c.args.spans.now c.loop-span.span-index _ c.loop-span.keys_left.now c.loop-span.octets_left.now
    c.requires c.loop-span-test.true c.loop-span.invariant.keys c.loop-span.invariant.octets).key_room

pub split_at-requires-in-loop-span : goal.split_at-requires-in-loop-span
split_at-requires-in-loop-span c =
    (next_form (forms_in c.args.spans.now c.args.octets.now) c.args.owner_keys.now c.args.octets.now c.args.spans.now c.loop-span.span-index _ c.loop-span.keys_left.now c.loop-span.octets_left.now
    c.requires c.loop-span-test.true c.loop-span.invariant.keys c.loop-span.invariant.octets).room

pub invariant_of-push : goal.invariant_of-push
invariant_of-push c =
    let next = next_form (forms_in c.args.spans.now c.args.octets.now) c.args.owner_keys.now c.args.octets.now c.args.spans.now c.loop-span.span-index _ c.loop-span.keys_left.now c.loop-span.octets_left.now
    c.requires c.loop-span-test.true c.loop-span.invariant.keys c.loop-span.invariant.octets in
    is_form_of_parts next.k _ _ _ next.span (c.split_at.ensures.front ∙ next.key) (c.split_at-in-loop-span.ensures.front ∙ next.octets) next.form

pub loop-span-preserved : goal.loop-span-preserved
loop-span-preserved c =
    let next = next_form (forms_in c.args.spans.now c.args.octets.now) c.args.owner_keys.now c.args.octets.now c.args.spans.now c.loop-span.span-index _ c.loop-span.keys_left.now c.loop-span.octets_left.now
    c.requires c.loop-span-test.true c.loop-span.invariant.keys c.loop-span.invariant.octets in
    record {
      forms = c.in_ok-push.ensures.items ∙ (λ i. c.loop-span.invariant.forms i ++ form_is next.k _ _ next.span (c.split_at-in-loop-span.ensures.front ∙ next.octets) next.form i ∷ []) ∙ sym next.more;
      keys = c.split_at.ensures.back ∙ next.keys_after;
      octets = c.split_at-in-loop-span.ensures.back ∙ next.octets_after;
    }
