use Rattle.std.proofs.Common.{inl}
use Rattle.dns_wire.specs.Names.{name_labels}
use Rattle.nelgvasti.proofs.NameLemmas.{named, nameless}
use Rattle.nelgvasti.proofs.denial.nelgvasti_nsec3_hash.Goals as goal

pub returns-in_default-clause-usage : goal.returns-in_default-clause-usage
returns-in_default-clause-usage c = λ _. inl (nameless c.args.name.now c.in_default.ensures)

pub returns-clause-done : goal.returns-clause-done
returns-clause-done c = λ _. (
  name_labels c.in-Ok.name.slice.now,
  named c.args.name.now (name_labels c.in-Ok.name.slice.now) c.in-Ok.ensures,
  c.if-salt-gt-MOST_SALT.false,
  c.nsec3_hash.ensures,
)
