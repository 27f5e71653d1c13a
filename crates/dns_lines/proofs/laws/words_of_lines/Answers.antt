use Rattle.dns_lines.proofs.CommandWords.{digest_words, normal_words, records_words, signed_words, zone_words}
use Rattle.dns_lines.proofs.laws.words_of_lines.Goals as goal

pub returns : goal.returns
returns c = record { normal = normal_words; digest = digest_words; signed = signed_words; records = records_words; zone = zone_words }
