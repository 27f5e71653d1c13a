use Rattle.std.proofs.Common.{refl, ap}
use Rattle.dns_record.specs.Data.{of_type}
use Rattle.dns_record.proofs.CompressibleNames.{uncompressed_data_in}
use Rattle.dns_nsec.proofs.type_laws.types_are_read_by_number_in_messages.Goals as goal

pub returns : goal.returns
returns c = record { nsec = λ rtype contents at. ap (of_type 47 rtype) (uncompressed_data_in 47 refl contents at); nsec3 = λ rtype contents at. ap (of_type 50 rtype) (uncompressed_data_in 50 refl contents at); nsec3param = λ rtype contents at. ap (of_type 51 rtype) (uncompressed_data_in 51 refl contents at) }
