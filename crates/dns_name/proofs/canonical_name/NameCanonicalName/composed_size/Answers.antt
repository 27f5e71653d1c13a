use Rattle.dns_wire.proofs.Spelled.{name_octets}
use Rattle.dns_name.proofs.canonical_name.NameCanonicalName.composed_size.Goals as goal

pub returns-clause-name : goal.returns-clause-name
returns-clause-name c = (name_octets _ _ c.args.self.now.is_name).0
