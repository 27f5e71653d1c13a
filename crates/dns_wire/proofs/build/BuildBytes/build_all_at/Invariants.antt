use Rattle.std.proofs.Common.{take}
use Rattle.std.specs.List.{All, flat_map}
use Rattle.dns_wire.specs.Building.{Occurs}
use Rattle.dns_wire.proofs.build.BuildBytes.build_all_at.Given as goal

-- the values so far fit, and are before the place
abbrev pub invariant-loop-value : goal.invariant-loop-value
invariant-loop-value g l = record {
  fits : All g.Self.BuildBytes.fits (take l.value-index l.values);
  occurs : Occurs (flat_map g.Self.BuildBytes.octets (take l.value-index l.values)) l.initial.bytes l.start l.bytes l.end;
}
