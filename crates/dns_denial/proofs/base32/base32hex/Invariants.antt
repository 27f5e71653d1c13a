use Rattle.std.proofs.Common.{◌≡◌, ◌*◌, ◌++◌, length, take, drop}
use Rattle.dns_denial.specs.Base32.{base32hex_of}
use Rattle.dns_denial.proofs.base32.base32hex.Given as goal

abbrev pub invariant-loop-i : goal.invariant-loop-i
invariant-loop-i l = record {
  long : length l.text ≡ 32;
  so_far : take (8 * l.i) l.text ++ base32hex_of (drop (5 * l.i) l.octets) ≡ base32hex_of l.octets;
}
