use Rattle.std.proofs.Common.{refl, ap}
use Rattle.dns_record.specs.Data.{of_type}
use Rattle.dns_record.proofs.CompressibleNames.{uncompressed_data}
use Rattle.dns_sec.proofs.type_laws.types_are_read_by_number.Goals as goal

pub returns : goal.returns
returns c = record {
  ds = λ rtype bytes. ap (of_type 43 rtype) (uncompressed_data 43 refl bytes);
  cds = λ rtype bytes. ap (of_type 59 rtype) (uncompressed_data 59 refl bytes);
  rrsig = λ rtype bytes. ap (of_type 46 rtype) (uncompressed_data 46 refl bytes);
  dnskey = λ rtype bytes. ap (of_type 48 rtype) (uncompressed_data 48 refl bytes);
  cdnskey = λ rtype bytes. ap (of_type 60 rtype) (uncompressed_data 60 refl bytes);
  zonemd = λ rtype bytes. ap (of_type 63 rtype) (uncompressed_data 63 refl bytes);
}
