use Rattle.std.proofs.Common.{◌∙◌, ap, subst}
use Rattle.dns_wire.specs.Names.{IsName}
use Rattle.dns_wire.specs.Reversed.{reversed_wire}
use Rattle.dns_wire.proofs.Backward.{reversed_size}
use Rattle.dns_zone.proofs.Suffixes.{suffix_tested}
use Rattle.dns_zone.proofs.member.is_at_or_below.Goals as goal

pub returns : goal.returns
returns c =
    let owner = subst IsName c.as_revname-owner.ensures (reversed_size _ _ c.as_revname-owner.result.is_name).name in
    let apex = subst IsName c.as_revname-apex.ensures (reversed_size _ _ c.as_revname-apex.result.is_name).name in
    suffix_tested c.args.owner.now c.args.apex.now owner apex c.as_bytes.result.now c.as_bytes-octets.result.now c.agreement_from_start.result
    (c.as_bytes.ensures.reversed ∙ ap reversed_wire c.as_revname-owner.ensures) (c.as_bytes-octets.ensures.reversed ∙ ap reversed_wire c.as_revname-apex.ensures) c.agreement_from_start.ensures
