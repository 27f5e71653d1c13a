use Rattle.std.proofs.Common.{◌≡◌, length}
use Rattle.dns_record.specs.Strings.{strings_in, same_strings}
use Rattle.dns_plain.proofs.txt.TxtPartialEq.eq.Given as goal

abbrev pub invariant-loop-string : goal.invariant-loop-string
invariant-loop-string l = same_strings l.strings l.others ≡ same_strings (strings_in l.self.slice.now) (strings_in l.fn.other.slice.now)

abbrev pub decreases-loop-string : goal.decreases-loop-string
decreases-loop-string l = length l.strings
