use Rattle.std.proofs.Common.{arith, ◌∙◌}
use Rattle.dns_wire.proofs.Backward.{reversed_size}
use Rattle.dns_name.proofs.Turned.{HoldsName, holds_name}
use Rattle.dns_wire.specs.Reversed.{reversed_name_labels}
use Rattle.dns_name.proofs.rev_name.RevName.to_name.Goals as goal
use Rattle.dns_name.proofs.rev_name.RevName.to_name.Goals.{After-put_forward-size}

held : (c : After-put_forward-size) → HoldsName c.put_forward-size.new.bytes c.put_forward-size.result (reversed_name_labels c.args.self.now.slice.now)
held c = holds_name _ _ _ _ (reversed_size _ _ c.args.self.now.is_name).name c.put_forward-size.ensures

pub put_forward-size-requires : goal.put_forward-size-requires
put_forward-size-requires c = omega (arith, (reversed_size _ _ c.args.self.now.is_name).short)

pub from_buffer-requires-clause-short : goal.from_buffer-requires-clause-short
from_buffer-requires-clause-short c = (held (goal.at.from_buffer-requires-clause-short c).After-put_forward-size).short

pub from_buffer-requires-clause-name : goal.from_buffer-requires-clause-name
from_buffer-requires-clause-name c = (held (goal.at.from_buffer-requires-clause-name c).After-put_forward-size).whole

pub returns : goal.returns
returns c = c.from_buffer.ensures ∙ (held (goal.at.returns c).After-put_forward-size).labels_are
