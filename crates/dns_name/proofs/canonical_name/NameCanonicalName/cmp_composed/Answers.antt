use Rattle.dns_wire.proofs.Spelled.{name_octets}
use Rattle.dns_name.proofs.canonical_name.NameCanonicalName.cmp_composed.Goals as goal

pub returns-clause-names : goal.returns-clause-names
returns-clause-names c = ((name_octets _ _ c.args.self.now.is_name).0, (name_octets _ _ c.args.other.now.is_name).0)
