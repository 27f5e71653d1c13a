use Rattle.std.proofs.Common.{map, take}
use Rattle.std.specs.List.{concat}
use Rattle.sha2.specs.Hashers.{Holds384}
use Rattle.dns_message.specs.Order.{octets_of_key}
use Rattle.dns_zone.proofs.digest.digest_of.Given as goal

-- the hasher holds the octets of the records so far
abbrev pub invariant-loop-found : goal.invariant-loop-found
invariant-loop-found l = Holds384 l.hasher (concat (map octets_of_key (take l.found-index l.found-items)))
