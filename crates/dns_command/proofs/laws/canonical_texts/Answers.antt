use Rattle.dns_command.proofs.ListTexts.{lists_one, texts_one, message_texts}
use Rattle.dns_command.proofs.laws.canonical_texts.Goals as goal

pub returns : goal.returns
returns c = record { lists = lists_one; one = texts_one; messages = message_texts }
