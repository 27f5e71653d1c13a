use Rattle.std.proofs.Common.{◌≡◌, ◌*◌, length, take}
use Rattle.dns_denial.specs.Unbase32.{groups_read}
use Rattle.dns_denial.proofs.unbase32.groups_read.Given as goal

abbrev pub invariant-loop-i : goal.invariant-loop-i
invariant-loop-i l = record {
  long : length l.octets ≡ 20;
  read : take (5 * l.i) l.octets ≡ groups_read l.i l.text;
}
