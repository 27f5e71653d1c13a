use Rattle.std.proofs.Common.{rules, ◌+◌, drop, refl}
use Rattle.dns_message.specs.Messages.{counted_slots}
use Rattle.dns_message.proofs.parser.MessageParser.next_item.Goals as goal

pub returns-in-Err-clause-gives : goal.returns-in-Err-clause-gives
returns-in-Err-clause-gives c =
    (drop (c.args.self.now.given + 1) (counted_slots c.args.self.now.message.slice.now), c.in_ok-position.ensures.none.0, search rules, refl, refl, refl, refl)
