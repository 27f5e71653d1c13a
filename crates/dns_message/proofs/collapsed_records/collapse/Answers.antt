use Rattle.std.proofs.Common.{◌≡◌, ◌∙◌, ap, sym, subst, true, map, List, rules}
use Rattle.std.specs.List.{All}
use Rattle.std.proofs.lemmas.Fn.{dedup_same}
use Rattle.dns_message.specs.Canonical.{canonical_wire, is_not_opt}
use Rattle.dns_message.specs.Messages.{RecordValue}
use Rattle.dns_message.specs.Order.{are_alike, collapsed}
use Rattle.dns_message.proofs.Collapsing.{collapsed_sorted, octets_alike, all_not_opt}
use Rattle.dns_message.proofs.collapsed_records.collapse.Goals as goal

pub returns-clause-octets : goal.returns-clause-octets
returns-clause-octets c =
    let left = dedup_same _ are_alike _ (λ x y b f' x' y' k. search rules) _ _ c.dedup_by.ensures.filtered in
    let keys = collapsed_sorted c.args.records.items c.sort_unstable.new.self.items c.sort_unstable.ensures.permutation c.sort_unstable.ensures.sorted in
    ap (map canonical_wire) left ∙ octets_alike _ (collapsed c.args.records.items) keys

pub returns-clause-canonical_list : goal.returns-clause-canonical_list
returns-clause-canonical_list c =
    returns-clause-octets c ∙ ap (λ (rs : List RecordValue). map canonical_wire (collapsed rs)) (sym (all_not_opt c.args.records.items (subst (All (λ (r : RecordValue). is_not_opt r ≡ true)) c.deref.ensures.value c.none_is_opt.ensures)))
