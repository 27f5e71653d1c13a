use Rattle.std.proofs.Common.{◌≡◌, ◌<◌, ◌≤◌, ℕ, get_or}
use Rattle.dns_message.proofs.owner_key.label_end.Given as goal

-- no octet so far is 0
abbrev pub invariant-loop-at : goal.invariant-loop-at
invariant-loop-at l = (k : ℕ) → l.begin ≤ k → k < l.at → get_or l.key k 0 ≡ 0 → ⊥
