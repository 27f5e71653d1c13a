use Rattle.dns_message.proofs.CanonicalListSameness.{outputs, message_outputs}
use Rattle.dns_message.proofs.laws.equal_outputs.Goals as goal

pub returns : goal.returns
returns c = record { records = outputs; messages = message_outputs }
