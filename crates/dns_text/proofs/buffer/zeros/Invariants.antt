use Rattle.std.proofs.Common.{◌≡◌, ◌≤◌, ◌-◌, replicate, vec_len}
use Rattle.dns_text.proofs.buffer.zeros.Given as goal

abbrev pub invariant-loop-piece : goal.invariant-loop-piece
invariant-loop-piece l = record { within : vec_len l.octets ≤ l.count; zeros : l.octets.items ≡ replicate (vec_len l.octets) 0 }

abbrev pub decreases-loop-piece : goal.decreases-loop-piece
decreases-loop-piece l = l.count - vec_len l.octets
