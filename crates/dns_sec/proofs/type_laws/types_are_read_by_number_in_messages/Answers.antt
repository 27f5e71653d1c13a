use Rattle.std.proofs.Common.{refl, ap}
use Rattle.dns_record.specs.Data.{of_type}
use Rattle.dns_record.proofs.CompressibleNames.{uncompressed_data_in}
use Rattle.dns_sec.proofs.type_laws.types_are_read_by_number_in_messages.Goals as goal

pub returns : goal.returns
returns c = record {
  ds = λ rtype contents at. ap (of_type 43 rtype) (uncompressed_data_in 43 refl contents at);
  cds = λ rtype contents at. ap (of_type 59 rtype) (uncompressed_data_in 59 refl contents at);
  rrsig = λ rtype contents at. ap (of_type 46 rtype) (uncompressed_data_in 46 refl contents at);
  dnskey = λ rtype contents at. ap (of_type 48 rtype) (uncompressed_data_in 48 refl contents at);
  cdnskey = λ rtype contents at. ap (of_type 60 rtype) (uncompressed_data_in 60 refl contents at);
  zonemd = λ rtype contents at. ap (of_type 63 rtype) (uncompressed_data_in 63 refl contents at);
}
