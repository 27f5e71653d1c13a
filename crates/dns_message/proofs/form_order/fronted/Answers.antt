use Rattle.std.proofs.Common.{◌++◌, ◌∷◌, ◌∙◌, [], ◌-◌, ap, arith, drop, get_or, length, length-drop, take_all, map, subst, sym, ◌≡◌}
use Rattle.std.proofs.lemmas.List.{map-append, take_more}
use Rattle.std.specs.List.{All}
use Rattle.dns_message.specs.Fronts.{HasFront}
use Rattle.dns_message.specs.declared.form_order.FrontedForm.{FrontedForm}
use Rattle.dns_message.proofs.FrontLemmas.{begins_at, front_added}
use Rattle.dns_message.proofs.form_order.fronted.Goals as goal

pub loop-form-preserved : goal.loop-form-preserved
loop-form-preserved c =
    let i = c.loop-form.invariant in
    let forms = c.args.forms.now in
    let index = c.loop-form.form-index in
    let start = i.fronts.0 in
    let pushed = c.in_ok-push.ensures.items in
    let item : c.form-item.result ≡ get_or forms index c.form-item.result = c.form-item.is in
    let begins = begins_at start c.shared_octets-shared.result forms index c.form-item.result item c.loop-form-test.true i.fronts.1 in
    let key = c.owner_key.result.now in
    let many = c.shared_octets-shared.result in
    let after = take_all (length key - many) (drop many key) (omega (arith, length-drop many key)) ∙ ap (drop many) c.owner_key.ensures.key in
    record {
      forms = ap (map (λ (e : FrontedForm). e.form.now)) pushed ∙ map-append (λ (e : FrontedForm). e.form.now) c.loop-form.entries.items _ ∙ (λ j. i.forms j ++ item j ∷ [])
          ∙ sym (take_more forms index c.form-item.result c.loop-form-test.true);
      fronts = (
        start,
        i.fronts.1,
        subst (All (HasFront start)) (sym pushed) (front_added start c.loop-form.entries.items _ c.shared_octets-shared.result _ i.fronts.2 begins after c.front_of.ensures.octets c.front_of.ensures.front c.owner_key.ensures.lowercase),
      );
    }
