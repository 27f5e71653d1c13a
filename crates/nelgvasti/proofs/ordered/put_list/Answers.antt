use Rattle.std.proofs.Common.{◌∙◌, ◌++◌, ap, arith, drop, length, map, sym, take}
use Rattle.std.specs.List.{concat}
use Rattle.dns_message.specs.Order.{octets_of_key}
use Rattle.dns_message.proofs.ListOctets.{next_fits, octets_more}
use Rattle.nelgvasti.proofs.Filled.{written_more}
use Rattle.nelgvasti.proofs.ordered.put_list.Goals as goal

pub put_form-end-requires : goal.put_form-end-requires
put_form-end-requires c =
    let fits = next_fits c.forms-form-items.result.now octets_of_key c.loop-form.form-index c.form-item.result c.loop-form-test.true c.form-item.is in
    omega (arith, c.loop-form.invariant.ends, fits, c.requires, ap (λ l. length (concat (map octets_of_key l))) c.forms-form-items.ensures)

pub loop-form-preserved : goal.loop-form-preserved
loop-form-preserved c =
    let so_far = concat (map octets_of_key (take c.loop-form.form-index c.forms-form-items.result.now)) in
    let wire = octets_of_key c.form-item.result in
    let more = octets_more c.forms-form-items.result.now octets_of_key c.loop-form.form-index c.form-item.result c.loop-form-test.true c.form-item.is in
    let put = written_more so_far wire c.loop-form.out c.args.out.now c.put_form-end.new.out c.loop-form.end c.put_form-end.result c.loop-form.invariant.ends c.loop-form.invariant.filled c.put_form-end.ensures in
    record {
      ends = put.0 ∙ ap length (sym more);
      filled = put.1 ∙ ap (λ l. l ++ drop c.put_form-end.result c.args.out.now) (sym more);
    }
