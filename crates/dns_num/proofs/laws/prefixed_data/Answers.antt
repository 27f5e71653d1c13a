use Rattle.dns_num.proofs.PrefixedAt.{prefixed_is, prefixed_found}
use Rattle.dns_num.proofs.CountedData.{read_back, occurs_so}
use Rattle.dns_num.proofs.laws.prefixed_data.Goals as goal

pub returns-clause-read : goal.returns-clause-read
returns-clause-read g c = λ content rest value fits is.
    read_back g.S.SizePrefix.number_width g.met.S.SizePrefix.one_or_two g.T.ParseBytes.reads content rest value fits is

pub returns-clause-occur : goal.returns-clause-occur
returns-clause-occur g c = λ bytes rest value octets is.
    occurs_so g.S.SizePrefix.number_width g.met.S.SizePrefix.one_or_two g.T.ParseBytes.reads bytes rest value octets is

pub returns-clause-in_messages : goal.returns-clause-in_messages
returns-clause-in_messages g c = λ contents at value end are. (prefixed_is g.S.SizePrefix.number_width g.met.S.SizePrefix.one_or_two g.T.ParseBytes.reads_at contents at value end are, prefixed_found g.S.SizePrefix.number_width g.met.S.SizePrefix.one_or_two g.T.ParseBytes.reads_at contents at value end)
