use Rattle.std.proofs.Common.{◌∙◌, ap, sym, length}
use Rattle.std.proofs.lemmas.Bool.{eqb-true, eq-eqb}
use Rattle.std.specs.Str.{str_to_ascii_lowercase}
use Rattle.dns_name.proofs.Agreed.{end_whole, end_all, low_long}
use Rattle.dns_name.proofs.NameSameness.{same_names}
use Rattle.dns_name.proofs.order.NamePartialEq.eq.Goals as goal

pub returns-then-octets-others : goal.returns-then-octets-others
returns-then-octets-others c =
    let a = c.as_bytes-octets.ensures.octets in
    let b = c.as_bytes-others.ensures.octets in
    let scan = c.agreement_from_end.ensures in
    same_names _ _ _ c.args.self.now.is_name c.args.other.now.is_name (
      λ t. ap str_to_ascii_lowercase (sym a) ∙ end_whole c.as_bytes-octets.result.now c.as_bytes-others.result.now c.if-octets-others.true (sym scan ∙ eqb-true _ _ t) ∙ ap str_to_ascii_lowercase b,
      λ e. eq-eqb _ _ (scan ∙ end_all c.as_bytes-octets.result.now c.as_bytes-others.result.now (ap str_to_ascii_lowercase a ∙ e ∙ ap str_to_ascii_lowercase (sym b))),
    )

pub returns-else-octets-others : goal.returns-else-octets-others
returns-else-octets-others c =
    let a = c.as_bytes-octets.ensures.octets in
    let b = c.as_bytes-others.ensures.octets in
    same_names _ _ _ c.args.self.now.is_name c.args.other.now.is_name (
      λ t. absurd (c.if-octets-others.false (eqb-true _ _ t)),
      λ e. absurd (c.if-octets-others.false (ap length a ∙ low_long c.args.self.now.slice.now c.args.other.now.slice.now e ∙ ap length (sym b))),
    )
