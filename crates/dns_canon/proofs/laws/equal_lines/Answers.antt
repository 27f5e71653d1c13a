use Rattle.dns_text.specs.Hexadecimal.{trim}
use Rattle.dns_command.proofs.ListTexts.{message_texts}
use Rattle.dns_text.proofs.HexadecimalLemmas.{spelled_octets}
use Rattle.dns_canon.proofs.laws.equal_lines.Goals as goal

pub returns : goal.returns
returns c = λ t u m n rs ss first second valid also. message_texts m n rs ss (spelled_octets (trim t) m first) (spelled_octets (trim u) n second) valid also
