use Rattle.dns_name.proofs.UnparsedNames.{unparsed_octets, unparsed_size}
use Rattle.dns_name.proofs.unparsed_name.UnparsedName.as_bytes.Goals as goal

pub returns-clause-wire : goal.returns-clause-wire
returns-clause-wire c = (unparsed_octets _ _ c.args.self.now.is_name).1

pub returns-clause-short : goal.returns-clause-short
returns-clause-short c = (unparsed_size _ _ c.args.self.now.is_name).1
