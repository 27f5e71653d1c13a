use Rattle.dns_wire.proofs.Lowered.{lower_wire}
use Rattle.dns_wire.proofs.Spelled.{name_octets}
use Rattle.dns_name.proofs.canonical_name.NameCanonicalName.build_lowercased_at.Goals as goal

pub returns : goal.returns
returns c = rw (lower_wire _ (name_octets _ _ c.args.self.now.is_name).0.sizes) at c.build_lowercase.ensures
