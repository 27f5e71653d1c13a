use Rattle.std.proofs.Common.{◌≡◌, length}
use Rattle.dns_chain.specs.Chains.{AreFinal}
use Rattle.dns_chain.proofs.final_targets.find_final_targets.Given as goal

abbrev pub invariant-loop-place : goal.invariant-loop-place
invariant-loop-place l = record { count : length l.targets.items ≡ l.place; final : AreFinal l.contents l.targets.items }
