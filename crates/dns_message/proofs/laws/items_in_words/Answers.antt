use Rattle.dns_message.proofs.ItemLemmas.{item_is, item_found, items_one}
use Rattle.dns_message.proofs.laws.items_in_words.Goals as goal

pub returns : goal.returns
returns c = record { read = λ section contents at item end. (item_is section contents at item end, item_found section contents at item end); one = items_one }
