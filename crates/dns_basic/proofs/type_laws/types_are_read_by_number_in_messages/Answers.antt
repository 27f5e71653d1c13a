use Rattle.std.proofs.Common.{refl}
use Rattle.dns_record.specs.Data.{data_in}
use Rattle.dns_basic.proofs.type_laws.types_are_read_by_number_in_messages.Goals as goal

pub returns : goal.returns
unfolding data_in
returns g c = record { ns = λ rtype contents at. refl; cname = λ rtype contents at. refl; soa = λ rtype contents at. refl; ptr = λ rtype contents at. refl; mx = λ rtype contents at. refl; rp = λ rtype contents at. refl }
