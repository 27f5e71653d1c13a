use Rattle.std.proofs.Common.{◌≡◌, flat_map, take}
use Rattle.dns_lines.specs.Signatures.{signature_part}
use Rattle.dns_lines.proofs.signed.signature_lines.Given as goal

-- the lines of the signatures so far
abbrev pub invariant-loop-found : goal.invariant-loop-found
invariant-loop-found l = l.text.items ≡ flat_map (signature_part l.forms) (take l.found-index l.forms)
