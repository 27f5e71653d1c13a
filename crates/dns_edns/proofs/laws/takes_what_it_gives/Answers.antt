use Rattle.std.proofs.Common.{◌∙◌, arith}
use Rattle.dns_edns.proofs.Given.{taken_within, fills, cookie_is}
use Rattle.dns_edns.proofs.laws.takes_what_it_gives.Goals as goal

pub returns : goal.returns
returns g c =
    let occurs = c.in-Ok.ensures.written.ok.1 in
    let said = taken_within (g.H.KeyedHash.keyed c.args.hash.now c.args.secret.now) _ _ _ c.args.from.0.value c.args.until.0.value _ (omega (arith, c.well_formed)) (omega (arith, c.well_formed)) c.in-Ok.ensures.size
    (cookie_is _ _ c.in-Ok-parse_bytes.ensures ∙ fills _ _ _ _ occurs (omega (arith, c.in-Ok.ensures.size))) in
    (λ ok. said.0 (c.verify.ensures.accepted.0 ok), λ within. c.verify.ensures.accepted.1 (said.1 within))
