use Rattle.dns_message.proofs.Extended.{item_more}
use Rattle.dns_message.proofs.build_laws.octets_after_items.Goals as goal

pub returns : goal.returns
returns c = item_more
