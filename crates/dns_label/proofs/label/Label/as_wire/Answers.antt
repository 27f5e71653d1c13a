use Rattle.std.proofs.Common.{arith, ap, length}
use Rattle.dns_label.proofs.FilledLabels.{label_octets}
use Rattle.dns_label.proofs.label.Label.as_wire.Goals as goal

pub returns-clause-wire : goal.returns-clause-wire
returns-clause-wire c = (label_octets _ _ c.args.self.now.is_label).1

pub returns-clause-short : goal.returns-clause-short
returns-clause-short c = let t = label_octets _ _ c.args.self.now.is_label in omega (arith, ap length t.1, t.0)
