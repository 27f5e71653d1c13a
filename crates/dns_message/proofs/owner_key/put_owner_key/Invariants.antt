use Rattle.std.proofs.Common.{◌≡◌, length}
use Rattle.dns_message.proofs.OwnerKeyLemmas.{KeyedFrom}
use Rattle.dns_message.proofs.owner_key.put_owner_key.Given as goal

-- the labels before the place are in the key, from the last octet on
abbrev pub invariant-loop-at : goal.invariant-loop-at
invariant-loop-at l = record {
  long : length l.key ≡ length l.initial.key;
  keyed : KeyedFrom l.owner l.at l.end l.key;
}

abbrev pub decreases-loop-at : goal.decreases-loop-at
decreases-loop-at l = l.end
