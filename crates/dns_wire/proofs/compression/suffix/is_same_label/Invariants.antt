use Rattle.std.proofs.Common.{◌≡◌, ◌≤◌, ◌-◌, length, take}
use Rattle.std.specs.Prelude.{map}
use Rattle.std.specs.Char.{to_ascii_lowercase}
use Rattle.dns_wire.proofs.compression.suffix.is_same_label.Given as goal

abbrev pub invariant-loop-at : goal.invariant-loop-at
invariant-loop-at l = record {
  long : length l.label ≡ length l.other;
  within : l.at ≤ length l.label;
  same : map to_ascii_lowercase (take l.at l.label) ≡ map to_ascii_lowercase (take l.at l.other);
}

abbrev pub decreases-loop-at : goal.decreases-loop-at
decreases-loop-at l = length l.label - l.at
