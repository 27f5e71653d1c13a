use Rattle.std.proofs.Common.{refl}
use Rattle.dns_wire.proofs.Spelled.{plain_name_takes, plain_name_again}
use Rattle.dns_wire.proofs.laws.plain_names.Goals as goal

pub returns-clause-spelled : goal.returns-clause-spelled
returns-clause-spelled c = plain_name_takes

pub returns-clause-read : goal.returns-clause-read
returns-clause-read c = λ labels rest is. plain_name_again _ labels rest is refl

pub returns-clause-short : goal.returns-clause-short
returns-clause-short c = λ bytes labels rest read. (plain_name_takes bytes labels rest read).0.size
