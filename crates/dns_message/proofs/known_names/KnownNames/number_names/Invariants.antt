use Rattle.std.proofs.Common.{◌≡◌}
use Rattle.dns_message.proofs.known_names.KnownNames.number_names.Given as goal

-- no name is another
abbrev pub invariant-loop-before : goal.invariant-loop-before
invariant-loop-before l = l.self.names ≡ l.initial.self.names
