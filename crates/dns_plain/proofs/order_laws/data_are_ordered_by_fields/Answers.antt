use Rattle.dns_record.proofs.ComparedOctets.{then_equal}
use Rattle.dns_plain.proofs.order_laws.data_are_ordered_by_fields.Goals as goal

pub returns : goal.returns
returns c = record { a = λ a b. simp then_equal; aaaa = λ a b. simp then_equal; srv = λ a b. simp then_equal; dname = λ a b. simp then_equal }
