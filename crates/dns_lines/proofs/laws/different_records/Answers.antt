use Rattle.dns_lines.proofs.ShownLemmas.{different_answers}
use Rattle.dns_lines.proofs.laws.different_records.Goals as goal

pub returns : goal.returns
returns c = different_answers
