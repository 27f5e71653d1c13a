use Rattle.std.proofs.Common.{◌∙◌, ap, arith}
use Rattle.dns_message.specs.Messages.{counts_of}
use Rattle.dns_message.proofs.Drafts.{counts_in_prefix}
use Rattle.dns_message.proofs.builder.MessageBuilder.counts.Goals as goal

pub returns : goal.returns
returns c =
    c.counts_in.ensures
    ∙ ap counts_of c.message.ensures.octets
    ∙ counts_in_prefix c.args.self.now.header c.args.self.now.contents (omega (arith, c.message.ensures.header))
