use Rattle.dns_message.proofs.Pushed.{new_whole}
use Rattle.dns_message.proofs.build_laws.new_messages_are_empty.Goals as goal

pub returns : goal.returns
returns c = new_whole
