use Rattle.std.proofs.Common.{arith, ap, length}
use Rattle.dns_wire.proofs.Spelled.{name_octets}
use Rattle.dns_name.proofs.name.Name.as_bytes.Goals as goal

pub returns-clause-wire : goal.returns-clause-wire
returns-clause-wire c = (name_octets _ _ c.args.self.now.is_name).1

pub returns-clause-short : goal.returns-clause-short
returns-clause-short c = let t = name_octets _ _ c.args.self.now.is_name in omega (arith, ap length t.1, t.0.size)
