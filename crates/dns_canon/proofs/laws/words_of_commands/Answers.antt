use Rattle.dns_canon.proofs.WordLemmas.{canon_words, same_words, make_words}
use Rattle.dns_canon.proofs.laws.words_of_commands.Goals as goal

pub returns : goal.returns
returns c = record { canon = canon_words; same = same_words; make = make_words }
