use Rattle.std.proofs.Common.{◌∙◌, ap, arith, length}
use Rattle.dns_message.specs.Order.{octets_of_key}
use Rattle.dns_message.proofs.ListOctets.{longer, next_fits, octets_all}
use Rattle.dns_message.proofs.canonical_list.octets_in.Goals as goal

pub overflow_add-total : goal.overflow_add-total
overflow_add-total c =
    let fits = next_fits c.args.forms.now octets_of_key c.loop-form.form-index c.form-item.result c.loop-form-test.true c.form-item.is in
    omega (arith, fits, c.loop-form.invariant.counted, ap length c.octets.ensures.octets, c.requires)

pub loop-form-preserved : goal.loop-form-preserved
loop-form-preserved c = record {
  counted = longer c.args.forms.now octets_of_key c.loop-form.form-index c.loop-form.total (length c.octets.result.now) c.form-item.result c.loop-form-test.true c.form-item.is (ap length c.octets.ensures.octets) c.loop-form.invariant.counted;
  few = omega (arith, c.loop-form.invariant.few, c.octets.ensures.short);
}

pub returns-clause-octets : goal.returns-clause-octets
returns-clause-octets c = c.loop-form.invariant.counted ∙ ap length (octets_all c.args.forms.now octets_of_key c.loop-form.form-index c.loop-form-test.false)
