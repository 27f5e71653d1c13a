use Rattle.std.proofs.Common.{◌≡◌, length, map, take}
use Rattle.std.specs.List.{concat, sum}
use Rattle.nelgvasti.proofs.zone.cut.Given as goal

-- the messages so far have the lengths so far, and are the octets up to the start of the next
abbrev pub invariant-loop-length : goal.invariant-loop-length
invariant-loop-length l = record {
  starts : l.start ≡ sum (take l.length-index l.lengths);
  octets : concat (map (λ m. m.now) l.messages.items) ≡ take l.start l.octets;
  lengths : map length (map (λ m. m.now) l.messages.items) ≡ take l.length-index l.lengths;
}
