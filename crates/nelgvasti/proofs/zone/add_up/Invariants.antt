use Rattle.std.proofs.Common.{◌≡◌, ◌+◌, take}
use Rattle.std.specs.List.{sum}
use Rattle.nelgvasti.proofs.zone.add_up.Given as goal

-- the lengths so far and the rest add up to the number
abbrev pub invariant-loop-length : goal.invariant-loop-length
invariant-loop-length l = l.rest + sum (take l.length-index l.lengths) ≡ l.initial.rest
