use Rattle.std.proofs.Common.{◌∙◌, List, ap, sym, ◌++◌, ◌∷◌, []}
use Rattle.std.specs.Prelude.{filter}
use Rattle.dns_message.specs.Order.{SortKey}
use Rattle.dns_zone.specs.Zone.{is_zonemd_form}
use Rattle.dns_zonemd.specs.SortedZone.{firsts}
use Rattle.dns_zonemd.specs.States.{is_alike_first, last_of}
use Rattle.dns_zonemd.proofs.StateLemmas.{alike_more, kept_more, last_more, on_ok, other_more}
use Rattle.dns_zonemd.proofs.state.keep_zonemd.Goals as goal

pub returns-then-is_alike_first : goal.returns-then-is_alike_first
returns-then-is_alike_first c = λ ks h.
    let k = c.args.form.now in
    let p = is_zonemd_form c.args.apex.now in
    let alike = ap (λ (l : List SortKey). is_alike_first (last_of l) k) (sym h.0) ∙ ap (λ (l : List SortKey). is_alike_first l k) (sym h.1) ∙ sym c.if-is_alike_first.ensures in
    (h.0 ∙ sym (ap firsts (kept_more p ks k (sym c.if-not-is_zonemd_of.ensures)) ∙ alike_more (filter p ks) k alike), h.1)

pub returns : goal.returns
returns c =
    let k = c.args.form.now in
    let p = is_zonemd_form c.args.apex.now in
    on_ok c.replace.result c.replace.ensures (λ last-is ks h.
    let other = ap (λ (l : List SortKey). is_alike_first (last_of l) k) (sym h.0) ∙ ap (λ (l : List SortKey). is_alike_first l k) (sym h.1) ∙ sym c.if-is_alike_first.ensures in
    let all = ap firsts (kept_more p ks k (sym c.if-not-is_zonemd_of.ensures)) ∙ other_more (filter p ks) k other in
    (c.in_ok-push.ensures.added ∙ ap (λ (l : List SortKey). l ++ k ∷ []) h.0 ∙ sym all, last-is ∙ sym (ap last_of c.in_ok-push.ensures.added ∙ last_more c.args.zonemds.now k)))
