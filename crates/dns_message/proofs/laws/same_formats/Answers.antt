use Rattle.dns_message.proofs.FormatSameness.{formats_alike}
use Rattle.dns_message.proofs.laws.same_formats.Goals as goal

pub returns : goal.returns
returns c = formats_alike
