use Rattle.std.proofs.Common.{length, take, ◌≡◌, ◌<◌}
use Rattle.dns_name.proofs.CountedSteps.{Counted}
use Rattle.dns_name.proofs.Followed.{Followed}
use Rattle.dns_name.proofs.name_buf.read_name.Given as goal

-- the labels so far are in the buffer
abbrev pub invariant-loop-own : goal.invariant-loop-own
invariant-loop-own g l = record {
  array : length l.buffer ≡ 255;
  room : l.size < 255;
  followed : Followed l.contents l.start l.place l.place l.end (take l.size l.buffer);
  counted : Counted l.contents l.start l.place l.place l.fn.steps l.steps l.size;
}

-- a pointer leads back
abbrev pub decreases-loop-own : goal.decreases-loop-own
decreases-loop-own g l = l.place
