use Rattle.std.proofs.Common.{refl}
use Rattle.dns_message.proofs.PlainFieldLemmas.{are_all_read, are_not_read, are_read_more, are_read_none}
use Rattle.dns_message.proofs.plain_fields.are_fields.Goals as goal

pub loop-kind-init : goal.loop-kind-init
loop-kind-init c = are_read_none _ _

pub returns-in_default : goal.returns-in_default
returns-in_default c = are_not_read _ _ c.loop-kind.kind-index c.loop-kind.rest.now _ _ c.loop-kind.invariant c.loop-kind-test.true refl c.in_default.ensures

pub loop-kind-preserved : goal.loop-kind-preserved
loop-kind-preserved c = are_read_more _ _ c.loop-kind.kind-index c.loop-kind.rest.now _ _ c.loop-kind.invariant c.loop-kind-test.true refl c.in-Some.ensures.0 c.in-Some.trailing.now c.in-Some.ensures.1

pub returns : goal.returns
returns c = are_all_read _ _ c.loop-kind.kind-index c.loop-kind.rest.now _ c.loop-kind.invariant c.loop-kind-test.false c.is_empty.ensures
