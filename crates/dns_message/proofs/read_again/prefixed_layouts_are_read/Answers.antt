use Rattle.dns_message.proofs.SizedRead.{sized_layout_read}
use Rattle.dns_message.proofs.read_again.prefixed_layouts_are_read.Goals as goal

pub returns : goal.returns
returns g c = λ v layout contents places more is all fits.
    sized_layout_read g.S.SizePrefix.number_width (g.T.BuildInMessage.layout v) (g.T.BuildInMessage.writes v) layout contents places more (g.met.T.BuildInMessage.layout_matches v) is fits all
