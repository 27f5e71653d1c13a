use Rattle.std.proofs.Common.{ap, ◌∙◌}
use Rattle.std.specs.Str.{str_to_ascii_lowercase}
use Rattle.dns_name.proofs.NameSameness.{octets_lowered}
use Rattle.dns_name.proofs.hash.NameHash.hash.Goals as goal

pub returns : goal.returns
returns g c =
    c.feed_lowercase.ensures
    ∙ ap (g.H.Hasher.write c.args.state.now) (ap str_to_ascii_lowercase c.as_bytes.ensures.octets ∙ octets_lowered _ c.args.self.now.is_name)
