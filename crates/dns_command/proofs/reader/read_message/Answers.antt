use Rattle.dns_wire.specs.Pointers.{name_at}
use Rattle.dns_record.specs.Data.{data_in}
use Rattle.dns_command.proofs.RefusalLemmas.{reading_refused}
use Rattle.dns_command.proofs.reader.read_message.Goals as goal

pub returns-in-Err-clause-refused : goal.returns-in-Err-clause-refused
returns-in-Err-clause-refused g c = λ refusal. rw c.of.ensures (reading_refused (data_in name_at) c.args.number refusal c.args.message.now c.in-Err.error c.in-Err.ensures.refused)
