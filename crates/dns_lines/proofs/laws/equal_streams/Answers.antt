use Rattle.dns_message.proofs.Streamed.{stream_same}
use Rattle.dns_command.proofs.TextLemmas.{text_well}
use Rattle.dns_lines.proofs.laws.equal_streams.Goals as goal

pub returns : goal.returns
returns c = λ t u rs ss first second. stream_same rs ss (text_well t rs first) (text_well u ss second)
