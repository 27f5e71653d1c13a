use Rattle.std.proofs.Common.{◌≡◌, ◌<◌, length, take}
use Rattle.dns_name.proofs.Followed.{Followed}
use Rattle.dns_chain.proofs.final_targets.FinalTargets.read_canonical_name.Given as goal

-- the labels so far are in the buffer
abbrev pub invariant-loop-own : goal.invariant-loop-own
invariant-loop-own l = record {
  array : length l.buffer ≡ 255;
  room : l.size < 255;
  same : l.self ≡ l.fn.self;
  followed : Followed l.contents l.start l.place l.place l.first_end (take l.size l.buffer);
}

-- a pointer leads back
abbrev pub decreases-loop-own : goal.decreases-loop-own
decreases-loop-own l = l.place
