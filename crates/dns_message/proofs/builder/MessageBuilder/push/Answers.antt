use Rattle.std.proofs.Common.{◌∙◌, sym, ap}
use Rattle.dns_message.specs.Building.{next_count, pushed}
use Rattle.dns_message.proofs.Drafts.{pushed_is}
use Rattle.dns_message.proofs.builder.MessageBuilder.push.Goals as goal

-- src/builder.rt:109:5
pub returns-clause-pushed : goal.returns-clause-pushed
returns-clause-pushed g c =
    let built = c.in_ok-end.ensures.contents in
    let section = c.number-section.result in
    let writes = g.T.BuildInMessage.writes c.args.item.now in
    let next = ap (λ d. next_count section d.header) c.self.view_is ∙ sym c.next_count.ensures ∙ c.in_ok-count.was in
    let size = c.put_count.ensures.size ∙ c.put_item.ensures.size in
    pushed_is section c.in_ok-count.count writes c.self.inside.buffer.now c.put_item.new.buffer c.put_count.new.buffer c.self.inside.size c.in_ok-end.end c.self.inside.compressor.now c.put_item.new.compressor next c.put_item.ensures.header c.put_count.ensures.header c.put_count.ensures.contents size built.occurs built.after_is
    ∙ ap (pushed section writes) c.self.view_is
    ∙ ap (λ n. pushed n writes c.args.self.now) c.number-section.ensures.number
