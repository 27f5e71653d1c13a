use Rattle.std.proofs.Common.{◌≡◌}
use Rattle.dns_data_tests.specs.SipHash.{start, with_words}
use Rattle.dns_data_tests.proofs.sip_hash.sip_hash.Given as goal

abbrev pub invariant-loop-n : goal.invariant-loop-n
invariant-loop-n l = l.state ≡ with_words (start l.secret) l.input l.n
