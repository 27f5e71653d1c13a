use Rattle.std.proofs.Common.{length, ◌-◌, ◌≡◌, ◌<◌}
use Rattle.dns_name.proofs.OwnLabelLemmas.{SoFar}
use Rattle.dns_name.proofs.own_labels.copy_counted.Given as goal

-- the labels so far are in the buffer
abbrev pub invariant-loop-target : goal.invariant-loop-target
invariant-loop-target g l = record {
  array : length l.buffer ≡ 255;
  room : l.size < 255;
  so_far : SoFar l.contents l.start l.before l.fn.buffer l.buffer l.at l.size l.fn.steps l.steps;
}

-- a label takes room
abbrev pub decreases-loop-target : goal.decreases-loop-target
decreases-loop-target g l = 255 - l.size
