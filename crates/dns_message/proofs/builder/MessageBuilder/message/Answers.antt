use Rattle.std.proofs.Common.{◌∙◌, ap, take-add}
use Rattle.dns_message.specs.Building.{drafted}
use Rattle.dns_message.proofs.builder.MessageBuilder.message.Goals as goal

-- src/builder.rt:95:5
pub returns-clause-octets : goal.returns-clause-octets
returns-clause-octets c = take-add 12 c.self.inside.size c.self.inside.buffer.now ∙ ap drafted c.self.view_is
