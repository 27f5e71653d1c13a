use Rattle.std.proofs.Common.{◌≡◌, length}
use Rattle.dns_nsec.specs.Bitmaps.{types_in}
use Rattle.dns_nsec.proofs.NamedTypes.{is_in}
use Rattle.dns_nsec.proofs.bitmaps.TypeBitmaps.contains.Given as goal

abbrev pub invariant-loop-window : goal.invariant-loop-window
invariant-loop-window l = is_in l.code (types_in l.rest.slice.now) ≡ is_in l.code (types_in l.self.slice.now)

abbrev pub decreases-loop-window : goal.decreases-loop-window
decreases-loop-window l = length l.rest.slice.now
