use Rattle.std.proofs.lemmas.List.{append-nil}
use Rattle.dns_basic.proofs.order_laws.data_are_hashed_by_fields.Goals as goal

pub returns : goal.returns
returns g c = record { ns = λ v. simp append-nil; cname = λ v. simp append-nil; soa = λ v. simp append-nil; ptr = λ v. simp append-nil; mx = λ v. simp append-nil; rp = λ v. simp append-nil }
