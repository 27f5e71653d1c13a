use Rattle.std.proofs.Common.{List, arith, sym, subst}
use Rattle.std.specs.Prelude.{filter}
use Rattle.dns_message.specs.Order.{SortKey}
use Rattle.dns_zone.specs.Zone.{belongs_form}
use Rattle.dns_zonemd.specs.SortedZone.{firsts}
use Rattle.dns_zonemd.specs.States.{HoldsMembers}
use Rattle.dns_zonemd.proofs.StateLemmas.{filter_few, kept_more, on_ok}
use Rattle.dns_zonemd.proofs.state.add_member.Goals as goal

pub returns-then-belongs : goal.returns-then-belongs
returns-then-belongs c =
    let p = belongs_form c.args.apex.now in
    let k = c.args.form.now in
    on_ok c.add.result c.add.ensures (λ more ks within h.
    subst (λ (l : List SortKey). HoldsMembers (firsts l) c.add.new.self) (sym (kept_more p ks k (sym c.if-belongs.ensures))) (more (filter p ks) (omega (arith, filter_few p ks, within)) h))
