use Rattle.dns_label.proofs.Scanned.{shown_plain, plain_shown, parsed_takes}
use Rattle.dns_label.proofs.text_laws.plain_texts_are_printed.Goals as goal

pub returns-clause-printed : goal.returns-clause-printed
returns-clause-printed c = shown_plain

pub returns-clause-read : goal.returns-clause-read
returns-clause-read c = λ text contents is read. plain_shown text contents is (parsed_takes text contents read).0
