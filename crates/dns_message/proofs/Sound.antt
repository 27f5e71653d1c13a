-- The data of a record are no longer than its size can say.
use Rattle.std.proofs.Common.{ℕ, ◌<◌, ◌^◌, List, length, take, arith}
use Rattle.std.proofs.lemmas.List.{length-take}
use Rattle.dns_wire.specs.Pointers.{name_at}
use Rattle.dns_record.specs.Data.{data_in}
use Rattle.dns_record.specs.Fields.{Field, fields_octets}
use Rattle.dns_record.specs.Records.{SizedDataIn}
use Rattle.dns_record.proofs.Sizes.{data_short}

pub short_data : (rtype end : ℕ) (contents : List ℕ) (content : List Field) → SizedDataIn (data_in name_at) contents content rtype end → length (fields_octets content) < 2 ^ 16
short_data rtype end contents content is = data_short rtype (take end contents) is.at content (omega (arith, is.short, length-take end contents)) is.read
