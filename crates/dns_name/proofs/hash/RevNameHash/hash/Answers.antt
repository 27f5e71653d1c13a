use Rattle.std.proofs.Common.{ap, ◌∙◌}
use Rattle.std.specs.Str.{str_to_ascii_lowercase}
use Rattle.dns_wire.proofs.Backward.{lower_reversed, reversed_size}
use Rattle.dns_name.proofs.hash.RevNameHash.hash.Goals as goal

pub returns : goal.returns
returns g c =
    c.feed_lowercase.ensures
    ∙ ap (g.H.Hasher.write c.args.state.now) (ap str_to_ascii_lowercase c.as_bytes.ensures.reversed ∙ lower_reversed _ (reversed_size _ _ c.args.self.now.is_name).name)
