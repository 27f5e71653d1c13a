use Rattle.dns_message.proofs.Phrased.{fails_stops, stops_fails, whole_read, read_whole}
use Rattle.dns_message.proofs.ItemLemmas.{question_occurs, record_occurs}
use Rattle.dns_message.proofs.laws.readings_in_words.Goals as goal

pub returns-clause-stops : goal.returns-clause-stops
returns-clause-stops c = λ m s i p. (stops_fails m s i p, fails_stops m s i p)

pub returns-clause-whole : goal.returns-clause-whole
returns-clause-whole c = λ m items end. (read_whole m items end, whole_read m items end)

pub returns-clause-question_item : goal.returns-clause-question_item
returns-clause-question_item c = question_occurs

pub returns-clause-record_item : goal.returns-clause-record_item
returns-clause-record_item c = λ section contents at found end. record_occurs section contents at found end
