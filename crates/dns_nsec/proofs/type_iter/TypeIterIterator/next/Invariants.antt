use Rattle.std.proofs.Common.{◌≡◌, ◌≤◌, length}
use Rattle.dns_nsec.proofs.NamedTypes.{coming}
use Rattle.dns_nsec.proofs.type_iter.TypeIterIterator.next.Given as goal

abbrev pub invariant-loop-place : goal.invariant-loop-place
invariant-loop-place l =
    (l.fn.self ≡ coming l.window.number l.from l.window.bits.now l.rest.slice.now)
    × (l.fn.self ≡ coming l.self-inside.window.number l.self-inside.place l.self-inside.window.bits.now l.self-inside.rest.slice.now)
    × (length l.window.bits.now ≤ 32)
    × (length l.self-inside.window.bits.now ≤ 32)
    × (l.self-inside.place ≤ 256)

abbrev pub decreases-loop-place : goal.decreases-loop-place
decreases-loop-place l = length l.rest.slice.now
