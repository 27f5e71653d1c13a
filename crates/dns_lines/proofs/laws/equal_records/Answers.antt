use Rattle.dns_lines.proofs.AnswerLemmas.{equal_answers}
use Rattle.dns_lines.proofs.laws.equal_records.Goals as goal

pub returns : goal.returns
returns c = equal_answers
