use Rattle.std.proofs.Common.{◌≡◌, map, take}
use Rattle.dns_zone.proofs.messages.slices_of.Given as goal

-- the octets of the messages so far
abbrev pub invariant-loop-message : goal.invariant-loop-message
invariant-loop-message l = map (λ m. m.now) l.slices.items ≡ map (λ m. m.items) (take l.message-index l.messages)
