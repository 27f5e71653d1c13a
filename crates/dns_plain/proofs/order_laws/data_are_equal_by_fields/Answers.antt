use Rattle.std.proofs.Math.Bool.{and-true}
use Rattle.dns_plain.proofs.order_laws.data_are_equal_by_fields.Goals as goal

pub returns : goal.returns
returns c = record { a = λ a b. simp and-true; hinfo = λ a b. simp and-true; aaaa = λ a b. simp and-true; srv = λ a b. simp and-true; dname = λ a b. simp and-true; txt = λ a b. simp and-true }
