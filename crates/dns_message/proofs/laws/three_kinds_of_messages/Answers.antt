use Rattle.std.proofs.Common.{inl, inr}
use Rattle.std.proofs.lemmas.Bool.{cases_lt}
use Rattle.std.proofs.Common.{length}
use Rattle.dns_message.proofs.OneReading.{three_kinds, valid_not_short, stops_not_short}
use Rattle.dns_message.proofs.laws.three_kinds_of_messages.Goals as goal

pub returns-clause-some : goal.returns-clause-some
returns-clause-some c = three_kinds

pub returns-clause-not_short : goal.returns-clause-not_short
returns-clause-not_short c = λ m rs valid. elim (cases_lt (length m) 12) [ inl short ↦ absurd (valid_not_short m rs valid short) | inr long ↦ long ]

pub returns-clause-stops_not_short : goal.returns-clause-stops_not_short
returns-clause-stops_not_short c = λ m s i p stops. elim (cases_lt (length m) 12) [ inl short ↦ absurd (stops_not_short m s i p stops short) | inr long ↦ long ]
