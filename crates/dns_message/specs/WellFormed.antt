-- Records whose parts fit their places on the wire (RFC 1035 section 3.2.1).
use Rattle.std.specs.Prelude.{◌≡◌, ◌<◌, ◌^◌, length, Some}
use Rattle.dns_wire.specs.Names.{IsName, plain_name}
use Rattle.dns_wire.specs.Reading.{AreOctets}
use Rattle.dns_record.specs.Data.{data_as}
use Rattle.dns_record.specs.Fields.{fields_octets}
use Rattle.dns_message.specs.Messages.{RecordValue}
use Rattle.dns_message.specs.Canonical.{record_octets}

-- The owner is a name, numbers and data fit their octets, what the data are written as is read back as these data, by the RDATA format
-- of the type, and all that is written is octets.
pub record WellFormed (r : RecordValue) : Type 0 where
  pub owner : IsName r.owner
  pub rtype : r.rtype < 2 ^ 16
  pub class : r.class < 2 ^ 16
  pub ttl : r.ttl < 2 ^ 32
  pub size : length (fields_octets r.content) < 2 ^ 16
  pub content : data_as plain_name r.rtype (fields_octets r.content) ≡ Some r.content
  pub octets : AreOctets (record_octets r)
