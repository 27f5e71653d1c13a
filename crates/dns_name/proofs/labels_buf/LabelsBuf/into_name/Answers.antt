use Rattle.std.proofs.Common.{◌∙◌, take, ◌+◌}
use Rattle.dns_name.proofs.Buffered.{Rooted, rooted}
use Rattle.dns_name.proofs.labels_buf.LabelsBuf.into_name.Goals as goal
use Rattle.dns_name.proofs.labels_buf.LabelsBuf.into_name.Goals.{After-copy_at}

named : (c : After-copy_at) → Rooted (take (c.self.inside.size + 1) c.copy_at.new.buffer) c.args.self
named c = rooted _ _ _ c.self.invariant.2 c.self.invariant.3 c.self.view_is c.requires c.copy_at.ensures.prefix

pub from_buffer-requires-clause-name : goal.from_buffer-requires-clause-name
from_buffer-requires-clause-name c = (named (goal.at.from_buffer-requires-clause-name c).After-copy_at).whole

pub returns : goal.returns
returns c = c.from_buffer.ensures ∙ (named (goal.at.returns c).After-copy_at).labels_are
