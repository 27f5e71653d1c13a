use Rattle.dns_message.proofs.Counting.{counted_words, order_words, occurs_once}
use Rattle.dns_message.proofs.laws.counted_items.Goals as goal

pub returns : goal.returns
returns c = record { counted = counted_words; order = order_words; once = occurs_once }
