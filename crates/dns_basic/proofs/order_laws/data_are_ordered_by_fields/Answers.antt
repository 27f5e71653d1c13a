use Rattle.dns_record.proofs.ComparedOctets.{then_equal}
use Rattle.dns_basic.proofs.order_laws.data_are_ordered_by_fields.Goals as goal

pub returns : goal.returns
returns g c = record { ns = λ a b. simp then_equal; cname = λ a b. simp then_equal; ptr = λ a b. simp then_equal; mx = λ a b. simp then_equal }
