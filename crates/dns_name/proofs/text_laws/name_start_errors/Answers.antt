use Rattle.dns_name.proofs.NameTextFaults.{split_overlong_label, split_escape, split_empty, split_overlong, split_relative, split_short}
use Rattle.dns_name.proofs.text_laws.name_start_errors.Goals as goal

pub returns-clause-overlong_label : goal.returns-clause-overlong_label
returns-clause-overlong_label c = split_overlong_label

pub returns-clause-escape : goal.returns-clause-escape
returns-clause-escape c = split_escape

pub returns-clause-empty : goal.returns-clause-empty
returns-clause-empty c = split_empty

pub returns-clause-overlong : goal.returns-clause-overlong
returns-clause-overlong c = split_overlong

pub returns-clause-relative : goal.returns-clause-relative
returns-clause-relative c = split_relative

pub returns-clause-short : goal.returns-clause-short
returns-clause-short c = split_short
