use Rattle.std.proofs.Common.{◌∙◌, sym, arith}
use Rattle.dns_wire.proofs.Lowered.{lowered_long}
use Rattle.dns_name.proofs.lowercased.LowercasedBuildBytes.built_bytes_size.Goals as goal

pub returns-clause-size : goal.returns-clause-size
returns-clause-size g c = c.composed_size.ensures.size ∙ sym (lowered_long (g.N.CanonicalName.name c.args.self.now.name.now))

pub returns-clause-short : goal.returns-clause-short
returns-clause-short g c = omega (arith, c.composed_size.ensures.size, c.composed_size.ensures.name.size)
