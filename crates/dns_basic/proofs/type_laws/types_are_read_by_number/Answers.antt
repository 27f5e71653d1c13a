use Rattle.std.proofs.Common.{refl}
use Rattle.dns_record.specs.Data.{data_as}
use Rattle.dns_basic.proofs.type_laws.types_are_read_by_number.Goals as goal

pub returns : goal.returns
unfolding data_as
returns g c = record { ns = λ rtype bytes. refl; cname = λ rtype bytes. refl; soa = λ rtype bytes. refl; ptr = λ rtype bytes. refl; mx = λ rtype bytes. refl; rp = λ rtype bytes. refl }
