-- The message that a text of hexadecimal digits spells.
use Rattle.std.specs.Prelude.{List}
use Rattle.dns_wire.specs.Octets.{Octets}
use Rattle.dns_text.specs.Hexadecimal.{Spells}
use Rattle.dns_wire.specs.Pointers.{name_at}
use Rattle.dns_record.specs.Data.{data_in}
use Rattle.dns_record.specs.FurtherFormats.{DataReading}
use Rattle.dns_message.specs.Messages.{RecordValue, ValidBy}

-- the text spells a message that is read whole if data are read so, and these are its records
abbrev pub HasRecordsBy : DataReading → Octets → List RecordValue → Type 0
HasRecordsBy reads text rs = (m : Octets) × Spells text m × ValidBy reads m rs

-- the text spells a valid message, and these are its records
abbrev pub HasRecords : Octets → List RecordValue → Type 0
HasRecords = HasRecordsBy (data_in name_at)
