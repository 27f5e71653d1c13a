use Rattle.std.proofs.Common.{◌∙◌, List, ap, arith, length-append, sym, ◌∷◌, []}
use Rattle.dns_message.specs.Order.{SortKey}
use Rattle.dns_zonemd.specs.States.{comes_before}
use Rattle.dns_zonemd.proofs.StateLemmas.{last_more, no_order, order_more}
use Rattle.dns_zonemd.proofs.state.SortedZone.add_record.Goals as goal

pub returns-then-comes_before-clause-refused : goal.returns-then-comes_before-clause-refused
returns-then-comes_before-clause-refused c = λ ks h.
    no_order ks c.args.form.now (ap (λ (l : List SortKey). comes_before l c.args.form.now) (sym h.previous) ∙ sym c.if-comes_before.ensures)

pub returns-clause-added : goal.returns-clause-added
returns-clause-added c = λ ks h.
    let k = c.args.form.now in
    record {
      order = order_more ks k h.order (ap (λ (l : List SortKey). comes_before l k) (sym h.previous) ∙ sym c.if-comes_before.ensures);
      lines = omega (arith, h.lines, length-append ks (k ∷ []));
      previous = c.in_ok-replace.ensures ∙ sym (last_more ks k);
      members = c.in_ok-add_member.ensures ks (omega (arith, h.lines, c.requires)) h.members;
      soa = c.in_ok-keep_soa.ensures.kept ks h.soa;
      zonemds = c.in_ok-keep_zonemd.ensures ks h.zonemds;
    }
