use Rattle.std.proofs.lemmas.List.{append-nil}
use Rattle.dns_plain.proofs.order_laws.data_are_hashed_by_fields.Goals as goal

pub returns : goal.returns
returns c = record { a = λ v. simp append-nil; hinfo = λ v. simp append-nil; aaaa = λ v. simp append-nil; srv = λ v. simp append-nil; dname = λ v. simp append-nil; txt = λ v. simp append-nil }
