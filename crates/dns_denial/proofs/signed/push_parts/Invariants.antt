use Rattle.std.proofs.Common.{◌≡◌, ◌++◌, flat_map, take}
use Rattle.dns_denial.specs.Signed.{signed_part}
use Rattle.dns_denial.proofs.signed.push_parts.Given as goal

-- the parts of the records so far come after what was there
abbrev pub invariant-loop-found : goal.invariant-loop-found
invariant-loop-found l = l.signed.items ≡ l.fn.signed.items ++ flat_map (signed_part l.signature) (take l.found-index l.forms)
