use Rattle.dns_wire.proofs.Rereading.{compressed_read}
use Rattle.dns_wire.proofs.compression.laws.compressed_names_are_read.Goals as goal

pub returns : goal.returns
returns c = compressed_read
