use Rattle.std.proofs.Common.{◌++◌, ◌∷◌, [], List, OnOk, ap, refl, subst, ◌≡◌, ◌∙◌}
use Rattle.dns_name.specs.Order.{key}
use Rattle.dns_message.specs.Order.{SortKey}
use Rattle.dns_message.proofs.LastOwners.{lowered_key, owner_labels}
use Rattle.dns_message.proofs.PartsAdded.{numbers_before, parts_after}
use Rattle.dns_message.proofs.canonical_forms.CanonicalForms.push_parts.Goals as goal

pub returns : goal.returns
returns c =
    let rtype = c.args.rtype.code.value in
    let class = c.args.rclass.code.value in
    let ttl = c.args.ttl.value.value in
    let owner = ap key (c.owner.ensures ∙ owner_labels c.of-owner.result c.args.owner.now c.of-owner.ensures) ∙ lowered_key c.args.owner.now in
    let after = parts_after rtype class ttl (c.numbers-first.result ++ c.args.rdata.now) c.args.rdata.now (numbers_before c.numbers-first.result rtype class ttl _ c.args.rdata.now c.numbers-first.ensures refl) in
    subst (λ (l : List SortKey). OnOk c.push_canonical.result (c.push_canonical.new.self ≡ l))
    (λ i. c.args.self.now ++ record { owner = owner i; class = class; rtype = rtype; octets = after.1 i; ttl = ttl } ∷ [])
    c.push_canonical.ensures
