use Rattle.std.proofs.Common.{◌+◌, ◌-◌, ap, arith, drop, length, length-drop, rules, take_all, ◌∙◌}
use Rattle.dns_message.specs.Forms.{form_owner_key}
use Rattle.dns_message.specs.Order.{SortKey, octets_of_key}
use Rattle.dns_message.proofs.FormLemmas.{data_follow}
use Rattle.dns_message.proofs.canonical_form.CanonicalForm.data.Goals as goal

pub slice_bounds-result-count : goal.slice_bounds-result-count
slice_bounds-result-count c =
    (data_follow c.args.self.now c.self.inside.octets.now c.self.inside.owner_key.now (c.self.invariant.1 ∙ ap octets_of_key c.self.view_is) (c.self.invariant.0 ∙ ap form_owner_key c.self.view_is)).0

pub slice_bounds-result-start : goal.slice_bounds-result-start
slice_bounds-result-start c =
    let within = (data_follow c.args.self.now c.self.inside.octets.now c.self.inside.owner_key.now (c.self.invariant.1 ∙ ap octets_of_key c.self.view_is) (c.self.invariant.0 ∙ ap form_owner_key c.self.view_is)).0 in
    search (rules, within)

pub returns-clause-octets : goal.returns-clause-octets
returns-clause-octets c =
    let start = length c.self.inside.owner_key.now + 10 in
    let after = data_follow c.args.self.now c.self.inside.octets.now c.self.inside.owner_key.now (c.self.invariant.1 ∙ ap octets_of_key c.self.view_is) (c.self.invariant.0 ∙ ap form_owner_key c.self.view_is) in
    take_all (length c.self.inside.octets.now - start) (drop start c.self.inside.octets.now) (omega (arith, length-drop start c.self.inside.octets.now)) ∙ after.1

pub returns-clause-short : goal.returns-clause-short
returns-clause-short c = omega (arith, ap length (returns-clause-octets c), ap (λ (k : SortKey). length k.octets) c.self.view_is, c.self.invariant.2.3)
