use Rattle.std.proofs.lemmas.Result.{err_from_is_err_and}
use Rattle.dns_wire.specs.Reading.{octets}
use Rattle.dns_sec.proofs.Digests.{not_last}
use Rattle.dns_sec.proofs.zonemd.ZoneMDArrayU8ParseBytes.parse_bytes.Goals as goal

pub returns-in_err-digest : goal.returns-in_err-digest
returns-in_err-digest g c =
    let p = err_from_is_err_and c.from_residual-in_err-digest.result c.from_residual-in_err-digest.ensures.1 in
    rw (p.1, c.in_ok-serial.ensures.exact, c.in_ok-scheme.ensures.exact, c.in_ok-hash_alg.ensures.exact) (not_last _ _ _ (octets g.row.N c.in_ok-hash_alg.rest.now) c.in_err-digest.ensures)
