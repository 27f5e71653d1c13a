use Rattle.dns_lines.proofs.AnswerLemmas.{one_answer, one_text}
use Rattle.dns_lines.proofs.laws.one_answer.Goals as goal

pub returns : goal.returns
returns c = record { line = one_answer; text = one_text }
