use Rattle.dns_plain.proofs.TxtLemmas.{character_strings_whole, character_strings_some, strings_read, same_is}
use Rattle.dns_plain.proofs.laws.strings_of_character_strings.Goals as goal

pub returns-clause-whole : goal.returns-clause-whole
returns-clause-whole c = character_strings_whole

pub returns-clause-one : goal.returns-clause-one
returns-clause-one c = character_strings_some

pub returns-clause-read : goal.returns-clause-read
returns-clause-read c = strings_read

pub returns-clause-same : goal.returns-clause-same
returns-clause-same c = same_is
