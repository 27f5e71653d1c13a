use Rattle.std.proofs.lemmas.List.{append-nil}
use Rattle.dns_nsec.proofs.order_laws.data_are_hashed_by_fields.Goals as goal

pub returns : goal.returns
returns c = record { nsec = λ v. simp append-nil; nsec3 = λ v. simp append-nil; nsec3param = λ v. simp append-nil }
