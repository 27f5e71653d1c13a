use Rattle.std.proofs.Common.{◌∙◌, sym}
use Rattle.dns_zone.proofs.Suffixes.{apex_eq}
use Rattle.dns_zone.proofs.member.is_apex.Goals as goal

pub returns : goal.returns
returns c = c.eq.ensures ∙ sym (apex_eq c.args.apex.now c.args.owner.now)
