use Rattle.std.proofs.Common.{nat_eq, sym, ◌∙◌}
use Rattle.std.specs.Cmp.Lexicographic.{pointwise}
use Rattle.std.specs.Ordering.{on}
use Rattle.dns_message.specs.Order.{octets_of_key}
use Rattle.dns_message.proofs.ListOctets.{same_octets}
use Rattle.dns_message.proofs.canonical_list.CanonicalListPartialEq.eq.Goals as goal

pub returns-clause-same : goal.returns-clause-same
returns-clause-same c =
    let decides = same_octets c.args.self.now c.args.other.now in
    let is = c.have_same_octets.ensures ∙ (λ i. pointwise (on octets_of_key (pointwise nat_eq)) ((c.deref.ensures.value ∙ c.self.view_is) i) ((c.deref-2.ensures.value ∙ c.other.view_is) i)) in
    (λ t. decides.0 (sym is ∙ t), λ e. is ∙ decides.1 e)
