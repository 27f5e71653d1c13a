use Rattle.dns_zone.proofs.command.run_zone.Goals as goal

pub returns : goal.returns
returns g c = rw (c.from.ensures, ← c.zone_of.ensures) c.run_command-outcome.ensures
