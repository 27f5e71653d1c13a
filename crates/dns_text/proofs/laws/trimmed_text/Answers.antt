use Rattle.dns_text.proofs.TrimLemmas.{trims, trims_one}
use Rattle.dns_text.proofs.laws.trimmed_text.Goals as goal

pub returns : goal.returns
returns c = record { trims = trims; one = trims_one }
