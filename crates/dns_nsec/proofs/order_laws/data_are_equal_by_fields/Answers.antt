use Rattle.std.proofs.Math.Bool.{and-true, and_assoc}
use Rattle.dns_nsec.proofs.order_laws.data_are_equal_by_fields.Goals as goal

pub returns : goal.returns
returns c = record { nsec = λ a b. simp and-true; nsec3 = λ a b. simp (and-true, and_assoc); nsec3param = λ a b. simp and-true }
