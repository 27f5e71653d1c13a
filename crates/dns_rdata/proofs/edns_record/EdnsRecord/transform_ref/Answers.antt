use Rattle.dns_rdata.proofs.edns_record.EdnsRecord.transform_ref.Goals as goal

pub returns-clause-content : goal.returns-clause-content
returns-clause-content g c = (c.inner.result, rw c.new.ensures c.data_map.ensures, c.inner.ensures)
