use Rattle.std.proofs.Common.{◌∙◌, drop}
use Rattle.std.proofs.lemmas.List.{take_at, drop_at}
use Rattle.dns_message.proofs.builder.put_count.Goals as goal

-- src/builder.rt:181:1
pub returns-clause-header : goal.returns-clause-header
returns-clause-header c = take_at c.write_count.new.header (drop 12 c.args.buffer.now) 12 c.write_count.ensures.size ∙ c.write_count.ensures.exact

-- src/builder.rt:181:1
pub returns-clause-contents : goal.returns-clause-contents
returns-clause-contents c = drop_at c.write_count.new.header (drop 12 c.args.buffer.now) 12 c.write_count.ensures.size
