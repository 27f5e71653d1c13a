use Rattle.std.proofs.Common.{refl, ap}
use Rattle.dns_record.specs.Data.{of_type}
use Rattle.dns_record.proofs.CompressibleNames.{uncompressed_data}
use Rattle.dns_nsec.proofs.type_laws.types_are_read_by_number.Goals as goal

pub returns : goal.returns
returns c = record { nsec = λ rtype bytes. ap (of_type 47 rtype) (uncompressed_data 47 refl bytes); nsec3 = λ rtype bytes. ap (of_type 50 rtype) (uncompressed_data 50 refl bytes); nsec3param = λ rtype bytes. ap (of_type 51 rtype) (uncompressed_data 51 refl bytes) }
