use Rattle.dns_message.proofs.PlainFieldLemmas.{AreReadUpTo}
use Rattle.dns_message.proofs.plain_fields.are_fields.Given as goal

-- the fields so far are there
abbrev pub invariant-loop-kind : goal.invariant-loop-kind
invariant-loop-kind l = AreReadUpTo l.bytes l.kinds l.kind-index l.rest
