use Rattle.std.proofs.Common.{◌∙◌, ap}
use Rattle.hex.specs.Hex.{encode_lower}
use Rattle.dns_text.proofs.Encoding.{encoded}
use Rattle.dns_zonemd.proofs.VerdictLemmas.{sums_are}
use Rattle.dns_zonemd.proofs.report.sums_text.Goals as goal

pub returns : goal.returns
returns c = λ records stream are.
    ap (λ v. v.items) c.into_bytes.ensures.value ∙ c.in_ok-text.ensures.ok
    ∙ sums_are c.args.sums.now.records c.args.sums.now.octets _ _ stream records are.records_are are.octets_are
    (c.in_ok-sha384.ensures ∙ ap encode_lower (c.as_slice.ensures ∙ are.sha384_is) ∙ encoded _) (c.in_ok-sha512.ensures ∙ ap encode_lower (c.as_slice-2.ensures ∙ are.sha512_is) ∙ encoded _)
