use Rattle.dns_message.proofs.BuiltLemmas.{question_read_again}
use Rattle.dns_message.proofs.read_again.built_questions_are_read.Goals as goal

pub returns : goal.returns
returns c = λ labels qtype class contents places more is few small fits. question_read_again labels qtype class contents places more is few small fits
