use Rattle.std.proofs.Common.{◌∙◌, ap, sym}
use Rattle.std.proofs.lemmas.Bool.{eqb-true, eq-eqb}
use Rattle.std.specs.Str.{str_to_ascii_lowercase}
use Rattle.dns_wire.specs.Reversed.{reversed_wire, reversed_name_labels}
use Rattle.dns_wire.proofs.Backward.{reversed_size, lower_reversed, reversed_one}
use Rattle.dns_wire.proofs.Lowered.{name_lowered}
use Rattle.dns_name.proofs.Agreed.{prefix_whole, prefix_all, low_long}
use Rattle.dns_name.proofs.NameSameness.{same_by_octets}
use Rattle.dns_name.proofs.rev_order.RevNamePartialEq.eq.Goals as goal

pub returns-then-octets-others : goal.returns-then-octets-others
returns-then-octets-others c =
    let p = (reversed_size _ _ c.args.self.now.is_name).name in
    let q = (reversed_size _ _ c.args.other.now.is_name).name in
    let a = ap str_to_ascii_lowercase c.as_bytes-octets.ensures.reversed ∙ lower_reversed _ p in
    let b = ap str_to_ascii_lowercase c.as_bytes-others.ensures.reversed ∙ lower_reversed _ q in
    let scan = c.agreement_from_start.ensures in
    same_by_octets (reversed_name_labels c.args.self.now.slice.now) (reversed_name_labels c.args.other.now.slice.now) _
    (λ t. reversed_one _ _ (name_lowered _ p) (name_lowered _ q) (sym a ∙ prefix_whole c.as_bytes-octets.result.now c.as_bytes-others.result.now c.if-octets-others.true (sym scan ∙ eqb-true _ _ t) ∙ b))
    (λ e. eq-eqb _ _ (scan ∙ prefix_all c.as_bytes-octets.result.now c.as_bytes-others.result.now (a ∙ ap reversed_wire e ∙ sym b)))

pub returns-else-octets-others : goal.returns-else-octets-others
returns-else-octets-others c =
    let p = (reversed_size _ _ c.args.self.now.is_name).name in
    let q = (reversed_size _ _ c.args.other.now.is_name).name in
    let a = ap str_to_ascii_lowercase c.as_bytes-octets.ensures.reversed ∙ lower_reversed _ p in
    let b = ap str_to_ascii_lowercase c.as_bytes-others.ensures.reversed ∙ lower_reversed _ q in
    same_by_octets (reversed_name_labels c.args.self.now.slice.now) (reversed_name_labels c.args.other.now.slice.now) _
    (λ t. absurd (c.if-octets-others.false (eqb-true _ _ t)))
    (λ e. absurd (c.if-octets-others.false (low_long c.as_bytes-octets.result.now c.as_bytes-others.result.now (a ∙ ap reversed_wire e ∙ sym b))))
