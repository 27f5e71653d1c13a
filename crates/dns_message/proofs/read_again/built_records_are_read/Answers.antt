use Rattle.dns_message.proofs.BuiltLemmas.{record_read_again}
use Rattle.dns_message.proofs.read_again.built_records_are_read.Goals as goal

pub returns : goal.returns
returns c = λ r contents places more is fits. record_read_again r contents places more is fits
