use Rattle.dns_message.proofs.Repushed.{pushed_question}
use Rattle.dns_message.proofs.build_laws.pushed_questions_are_read.Goals as goal

pub returns : goal.returns
returns c = λ draft items labels qtype class long none few read fits is small low. pushed_question draft items long read fits labels qtype class none few is small low
