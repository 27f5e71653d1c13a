use Rattle.std.proofs.Common.{ap}
use Rattle.dns_wire.specs.Compression.{cut_at}
use Rattle.dns_wire.specs.Names.{wire}
use Rattle.dns_wire.proofs.CompressionLemmas.{longest_finds, none_found}
use Rattle.dns_wire.proofs.compression.laws.compressed_names.Goals as goal

pub returns : goal.returns
returns c = record {
  whole = λ contents places labels none. ap (cut_at (wire labels)) (none_found contents places labels none);
  cut = λ contents places labels prefix place are best. ap (cut_at (wire labels)) (longest_finds contents places labels prefix place are.rising best);
}
