use Rattle.dns_lines.proofs.ShownLemmas.{answer_is_line, answer_is_lines}
use Rattle.dns_lines.proofs.laws.answers_are_lines.Goals as goal

pub returns : goal.returns
returns c = record { one = answer_is_line; some = answer_is_lines }
