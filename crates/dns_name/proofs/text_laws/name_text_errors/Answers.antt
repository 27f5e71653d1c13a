use Rattle.dns_name.proofs.NameTextFaults.{parsed_overlong_label, parsed_partial, parsed_escape, parsed_empty, parsed_overlong, parsed_relative, parsed_character}
use Rattle.dns_name.proofs.text_laws.name_text_errors.Goals as goal

pub returns-clause-overlong_label : goal.returns-clause-overlong_label
returns-clause-overlong_label c = parsed_overlong_label

pub returns-clause-partial : goal.returns-clause-partial
returns-clause-partial c = parsed_partial

pub returns-clause-escape : goal.returns-clause-escape
returns-clause-escape c = parsed_escape

pub returns-clause-empty : goal.returns-clause-empty
returns-clause-empty c = parsed_empty

pub returns-clause-overlong : goal.returns-clause-overlong
returns-clause-overlong c = parsed_overlong

pub returns-clause-relative : goal.returns-clause-relative
returns-clause-relative c = parsed_relative

pub returns-clause-character : goal.returns-clause-character
returns-clause-character c = parsed_character
