use Rattle.std.proofs.Common.{◌∙◌, ap, arith, length, length-take, subst, take}
use Rattle.dns_message.specs.Forms.{IsForm, form_owner_key}
use Rattle.dns_message.specs.Order.{octets_of_key}
use Rattle.dns_message.proofs.FormLemmas.{owner_leads, owner_read}
use Rattle.dns_message.proofs.canonical_form.CanonicalForm.owner.Goals as goal

pub slice_bounds-result-end : goal.slice_bounds-result-end
slice_bounds-result-end c =
    let within = (owner_leads c.args.self.now c.self.inside.octets.now c.self.inside.owner_key.now (c.self.invariant.1 ∙ ap octets_of_key c.self.view_is) (c.self.invariant.0 ∙ ap form_owner_key c.self.view_is)).0 in
    omega (arith, within, length-take (length c.self.inside.owner_key.now) c.self.inside.octets.now)

pub invariant_of-result : goal.invariant_of-result
invariant_of-result c =
    let put = (owner_leads c.args.self.now c.self.inside.octets.now c.self.inside.owner_key.now (c.self.invariant.1 ∙ ap octets_of_key c.self.view_is) (c.self.invariant.0 ∙ ap form_owner_key c.self.view_is)).1 in
    record { is_name = (owner_read c.args.self.now (take (length c.self.inside.owner_key.now) c.self.inside.octets.now) (subst IsForm c.self.view_is c.self.invariant.2) put).0 }

pub returns : goal.returns
returns c =
    let put = (owner_leads c.args.self.now c.self.inside.octets.now c.self.inside.owner_key.now (c.self.invariant.1 ∙ ap octets_of_key c.self.view_is) (c.self.invariant.0 ∙ ap form_owner_key c.self.view_is)).1 in
    let read = owner_read c.args.self.now (take (length c.self.inside.owner_key.now) c.self.inside.octets.now) (subst IsForm c.self.view_is c.self.invariant.2) put in
    record { labels = read.1; key = read.2 }
