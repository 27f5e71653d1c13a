use Rattle.std.proofs.Common.{◌≡◌, length}
use Rattle.std.specs.Prelude.{fold}
use Rattle.dns_record.specs.Strings.{strings_in, strings_writes}
use Rattle.dns_plain.proofs.txt.TxtHash.hash.Given as goal

abbrev pub invariant-loop-string : goal.invariant-loop-string
invariant-loop-string g l = fold g.H.Hasher.write l.state (strings_writes l.strings) ≡ fold g.H.Hasher.write l.fn.state (strings_writes (strings_in l.self.slice.now))

abbrev pub decreases-loop-string : goal.decreases-loop-string
decreases-loop-string g l = length l.strings
