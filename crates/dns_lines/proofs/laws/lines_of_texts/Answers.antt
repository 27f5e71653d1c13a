use Rattle.dns_lines.proofs.LineLemmas.{one_lines, some_lines}
use Rattle.dns_lines.proofs.laws.lines_of_texts.Goals as goal

pub returns : goal.returns
returns c = record { each = some_lines; no_others = one_lines }
