use Rattle.std.proofs.Common.{◌≡◌}
use Rattle.dns_denial.specs.Hashes.{iterated_hash}
use Rattle.dns_denial.proofs.nsec3.iterated.Given as goal

abbrev pub invariant-loop-done : goal.invariant-loop-done
invariant-loop-done l = l.hash ≡ iterated_hash l.octets l.salt l._done
