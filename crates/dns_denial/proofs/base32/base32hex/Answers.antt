use Rattle.std.proofs.Common.{◌∙◌, arith, rules}
use Rattle.std.proofs.lemmas.Slice.{overwrites}
use Rattle.dns_denial.proofs.Groups.{group_written, all_written}
use Rattle.dns_denial.proofs.base32.base32hex.Goals as goal

pub loop-i-preserved : goal.loop-i-preserved
loop-i-preserved c = record {
  long = search (rules, overwrites);
  so_far = group_written c.args.octets.now c.loop-i.text c.copy_from_slice.new.self c.loop-i.i _ _ c.told-octets c.loop-i.invariant.long c.loop-i-test.true (omega arith) (omega arith)
      (c.copy_from_slice.ensures.after ∙ c.group_text.ensures) c.loop-i.invariant.so_far;
}

pub returns : goal.returns
returns c = all_written c.args.octets.now c.loop-i.text c.loop-i.i c.told-octets c.loop-i.invariant.long (omega arith) c.loop-i.invariant.so_far
