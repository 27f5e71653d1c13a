use Rattle.dns_label.proofs.TextFaults.{parsed_overlong, parsed_partial, parsed_escape, parsed_character, split_overlong, split_escape, split_short}
use Rattle.dns_label.proofs.text_laws.label_text_errors.Goals as goal

pub returns-clause-overlong : goal.returns-clause-overlong
returns-clause-overlong c = parsed_overlong

pub returns-clause-partial : goal.returns-clause-partial
returns-clause-partial c = parsed_partial

pub returns-clause-escape : goal.returns-clause-escape
returns-clause-escape c = parsed_escape

pub returns-clause-character : goal.returns-clause-character
returns-clause-character c = parsed_character

pub returns-clause-split_overlong : goal.returns-clause-split_overlong
returns-clause-split_overlong c = split_overlong

pub returns-clause-split_escape : goal.returns-clause-split_escape
returns-clause-split_escape c = split_escape

pub returns-clause-split_short : goal.returns-clause-split_short
returns-clause-split_short c = split_short
