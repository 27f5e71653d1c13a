use Rattle.std.proofs.Common.{rules}
use Rattle.dns_text.proofs.Transfers.{appends_next, flag_known}
use Rattle.dns_text.proofs.transfer.put_all.Goals as goal

pub loop-sent-preserved : goal.loop-sent-preserved
loop-sent-preserved g c = record {
  within = search rules;
  reported = appends_next _ _ _ c.args.text.now c.loop-sent.sent c.in_ok-sent.field-0 c.loop-sent.invariant.reported c.in_ok-sent.ensures.bytes;
  flag = flag_known _ _ _ c.in_ok-sent.field-0 c.loop-sent.invariant.flag c.in_ok-sent.ensures.flag;
  steady = search rules;
}
