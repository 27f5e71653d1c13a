use Rattle.dns_wire.specs.Pointers.{name_at}
use Rattle.dns_wire.specs.Reading.{Gives, all_at}
use Rattle.dns_name.proofs.WholeNames.{gives_whole, whole_follows, none_follows}
use Rattle.dns_name.proofs.name_buf.NameBufParseMessageBytes.parse_message_bytes.Goals as goal

pub returns : goal.returns
returns c =
    let exact : Gives (λ v. v) c.whole_message.result (all_at c.args.contents.now (name_at c.args.contents.now c.args.start)) = rw c.whole_message.ensures (gives_whole c.args.contents.now c.read_uncounted.result _ c.read_uncounted.ensures.exact) in
    record {
      exact = exact;
      follows = whole_follows c.args.contents.now c.args.start c.whole_message.result exact;
      refused = none_follows c.args.contents.now c.args.start c.whole_message.result exact;
    }
