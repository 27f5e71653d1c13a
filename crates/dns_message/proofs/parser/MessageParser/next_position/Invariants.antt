use Rattle.dns_message.proofs.NextItem.{PlacedSoFar}
use Rattle.dns_message.proofs.parser.MessageParser.next_position.Given as goal

abbrev pub invariant-loop-section : goal.invariant-loop-section
invariant-loop-section l = PlacedSoFar l.self.message.slice.now l.self.given l.section l.index
