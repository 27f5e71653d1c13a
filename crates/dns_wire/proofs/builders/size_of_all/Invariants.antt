use Rattle.std.proofs.Common.{◌≡◌, take, length}
use Rattle.std.specs.List.{flat_map}
use Rattle.dns_wire.proofs.builders.size_of_all.Given as goal

-- the octets of the values so far
abbrev pub invariant-loop-value : goal.invariant-loop-value
invariant-loop-value g l = l.size ≡ length (flat_map g.T.BuildBytes.octets (take l.value-index l.values))
