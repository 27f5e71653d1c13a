use Rattle.dns_normal.proofs.command.run_normal.Goals as goal

pub returns : goal.returns
returns g c = rw (c.from.ensures, ← c.command_of.ensures) c.run_command-outcome.ensures
