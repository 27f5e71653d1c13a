use Rattle.std.proofs.lemmas.List.{append-nil}
use Rattle.dns_sec.proofs.order_laws.data_are_hashed_by_fields.Goals as goal

pub returns : goal.returns
returns c = record { ds = λ v. simp append-nil; cds = λ v. simp append-nil; dnskey = λ v. simp append-nil; cdnskey = λ v. simp append-nil; rrsig = λ v. simp append-nil; zonemd = λ v. simp append-nil }
