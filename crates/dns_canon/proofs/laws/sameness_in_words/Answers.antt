use Rattle.dns_canon.proofs.ReportedSameness.{prints_same, prints_different, prints_a_word}
use Rattle.dns_canon.proofs.laws.sameness_in_words.Goals as goal

pub returns : goal.returns
returns c = record { same = prints_same; different = prints_different; no_others = prints_a_word }
