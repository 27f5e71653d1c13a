use Rattle.std.proofs.Common.{refl, ap}
use Rattle.dns_record.specs.Data.{of_type}
use Rattle.dns_record.proofs.CompressibleNames.{uncompressed_data_in}
use Rattle.dns_edns.proofs.type_laws.types_are_read_by_number_in_messages.Goals as goal

pub returns : goal.returns
returns c = record { opt = λ rtype contents at. ap (of_type 41 rtype) (uncompressed_data_in 41 refl contents at) }
