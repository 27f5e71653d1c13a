use Rattle.dns_message.proofs.Pushed.{pushed_whole, records_of_question, records_of_record}
use Rattle.dns_message.proofs.build_laws.pushes_add_an_item.Goals as goal

pub returns : goal.returns
returns c = record { item = pushed_whole; question_item = records_of_question; record_item = records_of_record }
