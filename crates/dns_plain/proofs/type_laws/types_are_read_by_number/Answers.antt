use Rattle.std.proofs.Common.{refl, ap}
use Rattle.dns_record.specs.Data.{of_type}
use Rattle.dns_record.proofs.CompressibleNames.{uncompressed_data}
use Rattle.dns_plain.proofs.type_laws.types_are_read_by_number.Goals as goal

pub returns : goal.returns
returns c = record { a = λ rtype bytes. ap (of_type 1 rtype) (uncompressed_data 1 refl bytes); hinfo = λ rtype bytes. ap (of_type 13 rtype) (uncompressed_data 13 refl bytes); txt = λ rtype bytes. ap (of_type 16 rtype) (uncompressed_data 16 refl bytes); aaaa = λ rtype bytes. ap (of_type 28 rtype) (uncompressed_data 28 refl bytes); srv = λ rtype bytes. ap (of_type 33 rtype) (uncompressed_data 33 refl bytes); dname = λ rtype bytes. ap (of_type 39 rtype) (uncompressed_data 39 refl bytes) }
