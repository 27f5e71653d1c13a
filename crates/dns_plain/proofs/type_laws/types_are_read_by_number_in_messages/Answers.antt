use Rattle.std.proofs.Common.{refl, ap}
use Rattle.dns_record.specs.Data.{of_type}
use Rattle.dns_record.proofs.CompressibleNames.{uncompressed_data_in}
use Rattle.dns_plain.proofs.type_laws.types_are_read_by_number_in_messages.Goals as goal

pub returns : goal.returns
returns c = record { a = λ rtype contents at. ap (of_type 1 rtype) (uncompressed_data_in 1 refl contents at); hinfo = λ rtype contents at. ap (of_type 13 rtype) (uncompressed_data_in 13 refl contents at); txt = λ rtype contents at. ap (of_type 16 rtype) (uncompressed_data_in 16 refl contents at); aaaa = λ rtype contents at. ap (of_type 28 rtype) (uncompressed_data_in 28 refl contents at); srv = λ rtype contents at. ap (of_type 33 rtype) (uncompressed_data_in 33 refl contents at); dname = λ rtype contents at. ap (of_type 39 rtype) (uncompressed_data_in 39 refl contents at) }
