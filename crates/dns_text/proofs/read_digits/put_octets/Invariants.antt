use Rattle.std.proofs.Common.{◌≡◌, ◌≤◌, ◌*◌, ◌-◌, length, take, drop}
use Rattle.dns_text.specs.Hexadecimal.{spelled}
use Rattle.dns_text.proofs.DigitBlocks.{joined}
use Rattle.dns_text.proofs.read_digits.put_octets.Given as goal

abbrev pub invariant-loop-octets : goal.invariant-loop-octets
invariant-loop-octets l = record {
  within : l.at ≤ length l.octets;
  long : length l.digits ≡ 2 * length l.octets;
  so_far : spelled l.digits ≡ joined (take l.at l.octets) (spelled (drop (2 * l.at) l.digits));
}

abbrev pub decreases-loop-octets : goal.decreases-loop-octets
decreases-loop-octets l = length l.octets - l.at
