use Rattle.std.proofs.Math.Bool.{and-true}
use Rattle.dns_sec.proofs.order_laws.data_are_equal_by_fields.Goals as goal

pub returns : goal.returns
returns c = record { ds = λ a b. simp and-true; cds = λ a b. simp and-true; dnskey = λ a b. simp and-true; cdnskey = λ a b. simp and-true; rrsig = λ a b. simp and-true; zonemd = λ a b. simp and-true }
