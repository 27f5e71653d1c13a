use Rattle.dns_lines.proofs.AnswerLemmas.{divided}
use Rattle.dns_lines.proofs.laws.answers_of_parts.Goals as goal

pub returns : goal.returns
returns c = divided
