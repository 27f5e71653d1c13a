use Rattle.dns_message.proofs.Shorter.{record_no_longer}
use Rattle.dns_message.proofs.read_again.built_records_are_no_longer.Goals as goal

pub returns : goal.returns
returns c = record_no_longer
