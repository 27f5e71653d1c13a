use Rattle.dns_text.proofs.HexadecimalLemmas.{spelled-shown, spelled_octets, spelled_pairs}
use Rattle.dns_text.proofs.laws.hexadecimal_text.Goals as goal

pub returns : goal.returns
returns c = record { back = spelled-shown; octets = spelled_octets; pairs = spelled_pairs }
