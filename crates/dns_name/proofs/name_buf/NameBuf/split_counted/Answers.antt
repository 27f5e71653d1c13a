use Rattle.dns_name.proofs.Followed.{answer_follows, nothing_answered}
use Rattle.dns_name.proofs.name_buf.NameBuf.split_counted.Goals as goal

pub returns-clause-follows : goal.returns-clause-follows
returns-clause-follows g c = answer_follows _ _ c.read_name.result c.read_name.ensures.exact

pub returns-clause-refused : goal.returns-clause-refused
returns-clause-refused g c = nothing_answered _ _ c.read_name.result c.read_name.ensures.exact
