use Rattle.std.proofs.Common.{◌-◌, take}
use Rattle.dns_wire.proofs.Noting.{Noting}
use Rattle.dns_wire.proofs.compression.compressor.NameCompressor.note.Given as goal

abbrev pub invariant-loop-at : goal.invariant-loop-at
invariant-loop-at l = Noting l.fn.self (take l.end l.contents) l.start l.self l.at

abbrev pub decreases-loop-at : goal.decreases-loop-at
decreases-loop-at l = l.end - l.at
