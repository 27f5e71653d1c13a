use Rattle.dns_name.proofs.NameTexts.{names_plain, names_shown, parsed_takes}
use Rattle.dns_name.proofs.text_laws.plain_names_are_printed.Goals as goal

pub returns-clause-printed : goal.returns-clause-printed
returns-clause-printed c = names_plain

pub returns-clause-read : goal.returns-clause-read
returns-clause-read c = λ text labels plain read. names_shown text labels plain (parsed_takes text labels read).0
