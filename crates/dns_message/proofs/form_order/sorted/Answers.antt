use Rattle.std.proofs.Common.{◌≡◌, ◌+◌, ◌∙◌, List, get_or, map, subst, sym}
use Rattle.std.specs.List.Sorted.{IsPermutation, IsSorted}
use Rattle.std.proofs.lemmas.List.Sorted.{All-permutation, IsPermutation-map}
use Rattle.std.proofs.lemmas.Result.{IfOk-weaker}
use Rattle.dns_message.specs.Fronts.{HasFront}
use Rattle.dns_message.specs.Order.{SortKey, sort_key_cmp}
use Rattle.dns_message.specs.declared.form_order.FrontedForm.{FrontedForm}
use Rattle.dns_message.proofs.FrontLemmas.{in_order_as_tested, sorted_by_front}
use Rattle.dns_message.proofs.form_order.sorted.Goals as goal

pub returns-clause-permutation : goal.returns-clause-permutation
returns-clause-permutation c =
    let old = c.in_ok-entries.entries.items in
    let new = c.sort_unstable-2.new.self.items in
    let forms = λ (es : List FrontedForm). map (λ (e : FrontedForm). e.form.now) es in
    let moved : IsPermutation (forms old) (forms new) = IsPermutation-map (λ (e : FrontedForm). e.form.now) old new c.sort_unstable-2.ensures.permutation in
    let from : forms old ≡ c.args.forms.items = c.in_ok-entries.ensures.forms ∙ c.deref-2.ensures.value in
    IfOk-weaker c.without_fronts.result _ _ (λ order are. subst (λ (l : List SortKey). IsPermutation c.args.forms.items l) (sym (are ∙ (λ i. forms (c.deref-3.ensures.value i))))
    (subst (λ (l : List SortKey). IsPermutation l (forms new)) from moved)) c.without_fronts.ensures

pub returns-clause-sorted : goal.returns-clause-sorted
returns-clause-sorted c =
    let old = c.in_ok-entries.entries.items in
    let new = c.sort_unstable-2.new.self.items in
    let fronts = c.in_ok-entries.ensures.fronts in
    let all = All-permutation (HasFront fronts.0) old new c.sort_unstable-2.ensures.permutation fronts.1 in
    let up = sorted_by_front fronts.0 new all c.sort_unstable-2.ensures.sorted in
    IfOk-weaker c.without_fronts.result _ _ (λ order are. subst (IsSorted sort_key_cmp) (sym (are ∙ (λ i. map (λ (e : FrontedForm). e.form.now) (c.deref-3.ensures.value i)))) up) c.without_fronts.ensures

pub returns-then-is_sorted-clause-sorted : goal.returns-then-is_sorted-clause-sorted
returns-then-is_sorted-clause-sorted c =
    let forms = c.args.forms.items in
    let test = rw c.deref.ensures.value at c.if-is_sorted.ensures.by_index in
    λ k d low within. in_order_as_tested (get_or forms k d) (get_or forms (k + 1) d) (test k d within).1
