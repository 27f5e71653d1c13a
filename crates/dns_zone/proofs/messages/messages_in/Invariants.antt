use Rattle.std.proofs.Common.{◌≡◌, Some, map}
use Rattle.dns_text.specs.Spelled.{all_spelled}
use Rattle.dns_zone.proofs.messages.messages_in.Given as goal

-- the lines so far spell the messages so far
abbrev pub invariant-loop-line : goal.invariant-loop-line
invariant-loop-line l = all_spelled (map (λ line. line.now) l.yielded) ≡ Some (map (λ m. m.items) l.messages.items)
