use Rattle.std.proofs.Common.{ap, ap₂, subst, ◌≡◌, ◌∙◌}
use Rattle.std.specs.Ordering.{nat_cmp}
use Rattle.std.specs.Cmp.Lexicographic.{slice_cmp}
use Rattle.dns_wire.specs.Names.{lowered}
use Rattle.dns_message.specs.Forms.{form_owner_key}
use Rattle.dns_message.specs.Order.{SortKey}
use Rattle.dns_message.proofs.FormLemmas.{forms_ordered}
use Rattle.dns_message.proofs.canonical_form.CanonicalForm.cmp_owner.Goals as goal

pub returns : goal.returns
returns c =
    c.cmp.ensures
    ∙ ap₂ (slice_cmp nat_cmp) (c.self.invariant.0 ∙ ap form_owner_key c.self.view_is) (c.other.invariant.0 ∙ ap form_owner_key c.other.view_is)
    ∙ forms_ordered c.args.self.now c.args.other.now
    (subst (λ (k : SortKey). lowered k.owner ≡ k.owner) c.self.view_is c.self.invariant.2.0) (subst (λ (k : SortKey). lowered k.owner ≡ k.owner) c.other.view_is c.other.invariant.2.0)
