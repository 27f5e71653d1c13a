use Rattle.std.proofs.Common.{◌≡◌, ◌≤◌, ◌*◌, ◌-◌, length, take, flat_map}
use Rattle.dns_text.specs.Hexadecimal.{shown}
use Rattle.dns_text.proofs.write_digits.put_digits.Given as goal

abbrev pub invariant-loop-at : goal.invariant-loop-at
invariant-loop-at l = record {
  within : l.at ≤ length l.octets;
  long : length l.text ≡ 2 * length l.octets;
  so_far : take (2 * l.at) l.text ≡ flat_map shown (take l.at l.octets);
}

abbrev pub decreases-loop-at : goal.decreases-loop-at
decreases-loop-at l = length l.octets - l.at
