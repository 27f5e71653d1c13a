use Rattle.std.proofs.Common.{◌≡◌, drop}
use Rattle.dns_denial.specs.Signed.{signature_at}
use Rattle.dns_denial.proofs.signed.signature_at.Given as goal

-- the signature is one of the records that are left
abbrev pub invariant-loop-found : goal.invariant-loop-found
invariant-loop-found l = signature_at l.left (drop l.found-index l.forms) ≡ signature_at l.number l.forms
