use Rattle.std.proofs.Common.{◌≡◌, ◌<◌, ◌≤◌, ◌-◌, length}
use Rattle.dns_wire.specs.Octets.{Labels}
use Rattle.dns_message.specs.OwnerKeys.{IsKeyOf}
use Rattle.dns_message.proofs.OwnerOfKeyLemmas.{ReadFrom}
use Rattle.dns_message.proofs.owner_key.put_owner_of_key.Given as goal

-- whosever key it is, the labels before the place are in the name, from the last octet on
abbrev pub invariant-loop-at : goal.invariant-loop-at
invariant-loop-at l = record {
  some : 0 < l.at;
  within : l.at ≤ length l.key;
  long : length l.owner ≡ length l.key;
  read : (labels : Labels) → IsKeyOf l.key labels → ReadFrom labels l.key l.at l.owner;
}

abbrev pub decreases-loop-at : goal.decreases-loop-at
decreases-loop-at l = length l.key - l.at
