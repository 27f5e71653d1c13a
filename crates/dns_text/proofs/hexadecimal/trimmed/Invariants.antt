use Rattle.std.proofs.Common.{◌≡◌, ◌≤◌, length, take}
use Rattle.dns_text.specs.Hexadecimal.{trim}
use Rattle.dns_text.proofs.hexadecimal.trimmed.Given as goal

-- only whitespace has been passed
abbrev pub invariant-loop-end : goal.invariant-loop-end
invariant-loop-end l = record { within : l.end ≤ length l.text; same : trim (take l.end l.text) ≡ trim l.text }

abbrev pub decreases-loop-end : goal.decreases-loop-end
decreases-loop-end l = l.end
