use Rattle.std.proofs.Common.{arith, subst, take, take_all}
use Rattle.std.specs.List.{All}
use Rattle.dns_message.specs.Fronts.{BeginsWith}
use Rattle.dns_message.proofs.FrontLemmas.{all_begin, begins_with}
use Rattle.dns_message.proofs.form_order.shared_octets.Goals as goal

pub loop-form-preserved : goal.loop-form-preserved
loop-form-preserved c =
    let i = c.loop-form.invariant in
    let key = c.owner_key-key.result.now in
    let with_form = c.shared_with-shared.ensures in
    record {
      within = omega (arith, with_form.fewer, i.within);
      same = all_begin key c.shared_with-shared.result c.loop-form.shared c.args.forms.now c.loop-form.form-index c.form-item.result c.form-item.is c.loop-form-test.true with_form.fewer i.same
          (begins_with (take c.shared_with-shared.result key) c.owner_key.result.now c.shared_with-shared.result c.form-item.result c.owner_key.ensures.key with_form.within with_form.same);
    }

pub returns : goal.returns
returns c =
    let i = c.loop-form.invariant in
    let key = c.owner_key-key.result.now in
    let many = c.loop-form.shared in
    (take many key, subst (All (BeginsWith (take many key) many)) (take_all c.loop-form.form-index c.args.forms.now (omega (arith, c.loop-form-test.false))) i.same)
