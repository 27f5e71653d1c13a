use Rattle.std.proofs.Common.{◌∙◌, arith}
use Rattle.dns_text.proofs.Transfers.{taken_more}
use Rattle.dns_text.proofs.transfer.read_text.Goals as goal

pub returns-then-count-limit-clause-taken : goal.returns-then-count-limit-clause-taken
returns-then-count-limit-clause-taken g c =
    taken_more _ _ _ c.loop-text.text.items c.read.new.into c.in_ok-count.count c.args.limit c.loop-text.invariant.reported c.in_ok-count.ensures.bytes.0 (omega (arith, c.loop-text.text.ok, c.loop-text.invariant.within))
    (c.read.auto.into ∙ c.loop-text.invariant.room)

pub returns-in_err-extend_from_slice-clause-taken : goal.returns-in_err-extend_from_slice-clause-taken
returns-in_err-extend_from_slice-clause-taken g c =
    taken_more _ _ _ c.loop-text.text.items c.read.new.into c.in_ok-count.count c.args.limit c.loop-text.invariant.reported c.in_ok-count.ensures.bytes.0 (omega (arith, c.loop-text.text.ok, c.loop-text.invariant.within))
    (c.read.auto.into ∙ c.loop-text.invariant.room)
