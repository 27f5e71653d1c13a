use Rattle.dns_name.proofs.UnparsedNames.{unparsed_takes, unparsed_read}
use Rattle.dns_name.proofs.UnparsedNamesAt.{unparsed_occurs, unparsed_found}
use Rattle.dns_name.proofs.laws.unparsed_names.Goals as goal

pub returns : goal.returns
returns c = record { spelled = unparsed_takes; read = unparsed_read; occurs = unparsed_occurs; found = unparsed_found }
