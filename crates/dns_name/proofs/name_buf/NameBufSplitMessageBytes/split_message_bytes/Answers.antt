use Rattle.dns_name.proofs.Followed.{answer_follows, nothing_answered}
use Rattle.dns_name.proofs.name_buf.NameBufSplitMessageBytes.split_message_bytes.Goals as goal

pub returns-clause-follows : goal.returns-clause-follows
returns-clause-follows c = answer_follows _ _ c.read_uncounted.result c.read_uncounted.ensures.exact

pub returns-clause-refused : goal.returns-clause-refused
returns-clause-refused c = nothing_answered _ _ c.read_uncounted.result c.read_uncounted.ensures.exact
