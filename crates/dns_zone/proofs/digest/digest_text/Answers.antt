use Rattle.std.proofs.Common.{◌∙◌, ap}
use Rattle.hex.specs.Hex.{encode_lower}
use Rattle.dns_text.proofs.Encoding.{encoded}
use Rattle.dns_zone.proofs.Streams.{text_is}
use Rattle.dns_zone.proofs.digest.digest_text.Goals as goal

pub returns : goal.returns
returns c = λ lists is.
    ap (λ v. v.items) c.into_bytes.ensures.value ∙ c.in_ok-text.ensures.ok
    ∙ text_is c.args.found.now.records c.args.found.now.octets lists _ is.records is.octets
    (c.in_ok-digits.ensures ∙ ap encode_lower (c.as_slice.ensures ∙ is.digest) ∙ encoded _)
