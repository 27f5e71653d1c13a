use Rattle.dns_denial.proofs.WordLemmas.{covers_words, hash_words, key_tags_words, signed_words}
use Rattle.dns_denial.proofs.laws.words_of_denial.Goals as goal

pub returns : goal.returns
returns c = record { hash = hash_words; covers = covers_words; signed = signed_words; key_tags = key_tags_words }
