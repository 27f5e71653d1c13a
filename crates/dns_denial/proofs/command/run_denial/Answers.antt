use Rattle.dns_denial.proofs.command.run_denial.Goals as goal

pub returns : goal.returns
returns g c = rw (c.from.ensures, ← c.command_of.ensures) c.run_command-outcome.ensures
