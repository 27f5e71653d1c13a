use Rattle.std.proofs.Common.{arith, false}
use Rattle.std.specs.Prelude.{IsTrue}
use Rattle.dns_wire.proofs.MatchingNames.{other_octet, all_octets}
use Rattle.dns_wire.proofs.compression.suffix.is_same_label.Goals as goal

pub returns-then-not-is_same_octet : goal.returns-then-not-is_same_octet
returns-then-not-is_same_octet c = other_octet _ _ c.loop-at.at c.loop-at.invariant.long (omega arith) (λ e. let h : IsTrue false = c.if-not-is_same_octet.ensures.1 e in cc)

pub returns : goal.returns
returns c = all_octets _ _ c.loop-at.at c.loop-at.invariant.long (omega arith) c.loop-at.invariant.same
