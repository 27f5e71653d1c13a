use Rattle.dns_message.proofs.Streamed.{stream_one, stream_same, message_streams}
use Rattle.dns_message.proofs.laws.canonical_streams.Goals as goal

pub returns : goal.returns
returns c = record { one = stream_one; records = stream_same; messages = message_streams }
