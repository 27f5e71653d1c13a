use Rattle.std.proofs.Common.{◌∙◌, sym}
use Rattle.std.proofs.lemmas.List.{length-map}
use Rattle.dns_message.specs.Order.{octets_of_key}
use Rattle.dns_zone.proofs.digest.digest_for.Goals as goal

pub returns : goal.returns
returns c = record {
  records = c.len.ensures ∙ sym (length-map c.args.list.now octets_of_key);
  octets = c.octet_count.ensures.octets;
  digest = c.digest_of.ensures;
}
