use Rattle.std.proofs.Common.{◌≡◌, ◌∙◌, ap, arith, flat_map, sym, map, rules}
use Rattle.std.proofs.lemmas.Fn.{dedup_same}
use Rattle.std.specs.Ordering.{eq_by_cmp}
use Rattle.std.specs.List.{dedup}
use Rattle.dns_message.specs.Order.{alike_cmp, octets_of_key, sort_key, collapsed}
use Rattle.dns_message.specs.Forms.{forms_in}
use Rattle.dns_message.proofs.FormLemmas.{sorted_forms}
use Rattle.dns_message.proofs.ListOctets.{no_more_octets}
use Rattle.dns_message.proofs.Collapsing.{keys_collapsed}
use Rattle.dns_message.proofs.SortedRecords.{octets_of_keys}
use Rattle.dns_message.proofs.canonical_forms.CanonicalForms.collapsed.Goals as goal

pub returns-clause-keys : goal.returns-clause-keys
returns-clause-keys c = λ rs are.
    let left = dedup_same _ (eq_by_cmp alike_cmp) _ (λ x y b f' x' y' k. search rules) _ _ c.dedup_by.ensures.filtered in
    let forms : c.in_ok-forms.forms.items ≡ map sort_key rs = c.in_ok-forms.ensures ∙ (λ i. forms_in (c.deref.ensures.value i) (c.deref-3.ensures.value i)) ∙ c.self.view_is ∙ are in
    left ∙ ap (dedup (eq_by_cmp alike_cmp)) (sorted_forms rs _ c.in_ok-forms-2.forms.items forms c.in_ok-forms-2.ensures.permutation c.in_ok-forms-2.ensures.sorted) ∙ sym (keys_collapsed rs)

pub returns-clause-octets : goal.returns-clause-octets
returns-clause-octets c = λ rs are. ap (map octets_of_key) (returns-clause-keys c rs are) ∙ octets_of_keys (collapsed rs)

pub invariant_of-result : goal.invariant_of-result
invariant_of-result c =
    let vec = c.self.inside.octets in
    let left = dedup_same _ (eq_by_cmp alike_cmp) _ (λ x y b f' x' y' k. search rules) _ _ c.dedup_by.ensures.filtered in
    let forms : c.in_ok-forms.forms.items ≡ forms_in c.self.inside.spans.items vec.items = c.in_ok-forms.ensures ∙ (λ i. forms_in (c.deref.ensures.value i) (c.deref-3.ensures.value i)) in
    let size = no_more_octets (eq_by_cmp alike_cmp) c.in_ok-forms.forms.items c.in_ok-forms-2.forms.items c.dedup_by.new.self.items vec.items (c.self.invariant.1 ∙ ap (flat_map octets_of_key) (sym forms)) c.in_ok-forms-2.ensures.permutation left in
    omega (arith, size, vec.ok.0, vec.ok.1, vec.small)
