use Rattle.std.proofs.Common.{◌≡◌, ◌∷◌, ◌+◌, length, map, take}
use Rattle.dns_message.specs.OwnerKeys.{lowercase_octet}
use Rattle.dns_message.proofs.owner_key.put_label_of_key.Given as goal

-- the octets so far are those of the label
abbrev pub invariant-loop-at : goal.invariant-loop-at
invariant-loop-at l = record {
  long : length l.label ≡ 1 + length l.key;
  put : take (1 + l.at) l.label ≡ length l.key ∷ map lowercase_octet (take l.at l.key);
}
