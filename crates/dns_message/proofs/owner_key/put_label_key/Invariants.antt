use Rattle.std.proofs.Common.{◌≡◌, ◌∷◌, ◌+◌, length, map, take}
use Rattle.dns_message.specs.OwnerKeys.{key_octet}
use Rattle.dns_message.proofs.owner_key.put_label_key.Given as goal

-- the octets so far are those of a key
abbrev pub invariant-loop-at : goal.invariant-loop-at
invariant-loop-at l = record {
  long : length l.key ≡ 1 + length l.label;
  put : take (1 + l.at) l.key ≡ 0 ∷ map key_octet (take l.at l.label);
}
