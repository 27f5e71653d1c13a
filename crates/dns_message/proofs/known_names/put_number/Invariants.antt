use Rattle.std.proofs.Common.{◌+◌, ◌-◌, length}
use Rattle.dns_message.proofs.known_names.put_number.Given as goal

abbrev pub decreases-loop-zeros : goal.decreases-loop-zeros
decreases-loop-zeros l = l.place + 1 - length l.numbers.items
