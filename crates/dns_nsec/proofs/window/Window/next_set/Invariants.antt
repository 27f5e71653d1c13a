use Rattle.std.proofs.Common.{◌≡◌, ◌+◌, ◌*◌, ◌-◌, length, drop}
use Rattle.dns_nsec.specs.Bitmaps.{bits_of, set_from}
use Rattle.dns_nsec.proofs.window.Window.next_set.Given as goal

abbrev pub invariant-loop-place : goal.invariant-loop-place
invariant-loop-place l = set_from (256 * l.self.number + l.from) (drop l.from (bits_of l.self.bits.now)) ≡ set_from (256 * l.self.number + l.place) (drop l.place (bits_of l.self.bits.now))

abbrev pub decreases-loop-place : goal.decreases-loop-place
decreases-loop-place l = 8 * length l.self.bits.now - l.place
