use Rattle.std.proofs.Common.{arith}
use Rattle.std.proofs.lemmas.Slice.{overwrites}
use Rattle.dns_text.proofs.io.memory.TextSinkSink.write.Goals as goal

pub returns-then-count-gt0-clause-free : goal.returns-then-count-gt0-clause-free
returns-then-count-gt0-clause-free c = simp overwrites (grind (arith, overwrites))
