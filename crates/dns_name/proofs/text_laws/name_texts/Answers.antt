use Rattle.dns_name.proofs.NameTexts.{parsed_takes, parsed_again, split_takes, split_again, split_never}
use Rattle.dns_name.proofs.text_laws.name_texts.Goals as goal

pub returns-clause-parsed : goal.returns-clause-parsed
returns-clause-parsed c = λ text labels. (parsed_takes text labels, λ h. parsed_again text labels h.0 h.1)

pub returns-clause-split : goal.returns-clause-split
returns-clause-split c = split_takes

pub returns-clause-prefix : goal.returns-clause-prefix
returns-clause-prefix c = split_again

pub returns-clause-never : goal.returns-clause-never
returns-clause-never c = split_never
