use Rattle.dns_wire.proofs.CompressionLemmas.{none_is, longest_is, longest_finds, none_found}
use Rattle.dns_wire.proofs.compression.laws.longest_suffixes.Goals as goal

pub returns : goal.returns
returns c = record {
  found = λ contents places labels prefix place are. longest_is contents places labels prefix place are.rising;
  finds = λ contents places labels prefix place are. longest_finds contents places labels prefix place are.rising;
  none = λ contents places labels prefix place e. none_is contents places labels e prefix place;
  finds_none = none_found;
}
