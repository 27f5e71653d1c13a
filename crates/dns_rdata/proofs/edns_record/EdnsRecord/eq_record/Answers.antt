use Rattle.dns_rdata.proofs.edns_record.EdnsRecord.eq_record.Goals.{then-same_prefix, else-same_prefix}
use Rattle.dns_rdata.proofs.edns_record.EdnsRecord.eq_record.Goals as goal

pub returns-clause-content : goal.returns-clause-content
returns-clause-content g c same =
    elim c.if-same_prefix.branch [
      | then-same_prefix w ↦ record { first = w.inner.result; second = w.inner-then-same_prefix.result; shows = (w.inner.ensures, w.inner-then-same_prefix.ensures); met = rw w.result-is w.same.ensures }
      | else-same_prefix w ↦ (let holds = c.same_prefix.ensures.1 same in absurd cc)
    ]
