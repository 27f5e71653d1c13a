use Rattle.std.proofs.Common.{List, [], ap}
use Rattle.std.specs.Prelude.{Option, unwrap_or}
use Rattle.dns_wire.specs.Compression.{compressed_name_writes}
use Rattle.dns_wire.specs.Names.{name_labels}
use Rattle.dns_name.specs.declared.name.Name.{Name}
use Rattle.dns_record.specs.Fields.{Field}
use Rattle.dns_rdata.specs.Data.{data_fields}
use Rattle.dns_rdata.proofs.CompressedData.{compressible_built}
use Rattle.dns_boxed.proofs.boxed_record_data.BoxedRecordDataBuildInMessage.build_in_message.Goals as goal

pub returns : goal.returns
returns c = compressible_built (λ (name : Name). name_labels name.slice.now) compressed_name_writes _ (data_fields c.get.result) (ap (λ (read : Option (List Field)). unwrap_or read []) c.get.ensures.read) c.build_in_message.ensures
