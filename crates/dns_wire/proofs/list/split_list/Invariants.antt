use Rattle.std.proofs.Common.{◌≡◌}
use Rattle.std.specs.Prelude.{map}
use Rattle.dns_wire.specs.Lists.{with_prefix, list_of}
use Rattle.dns_wire.proofs.list.split_list.Given as goal

-- the values so far, and the list of those that are left
abbrev pub invariant-loop-left : goal.invariant-loop-left
invariant-loop-left g l = with_prefix (map g.T.ParseBytes.seen l.values.items) (list_of g.T.ParseBytes.reads l.left l.rest) ≡ list_of g.T.ParseBytes.reads l.n l.bytes

abbrev pub decreases-loop-left : goal.decreases-loop-left
decreases-loop-left g l = l.left
