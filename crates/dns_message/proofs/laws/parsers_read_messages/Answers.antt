use Rattle.dns_wire.specs.declared.error.ParseError.{ParseError}
use Rattle.dns_wire.specs.Pointers.{name_at}
use Rattle.dns_record.specs.Data.{data_in}
use Rattle.dns_message.proofs.Parsed.{starts, gives, refuses, ends}
use Rattle.dns_message.proofs.laws.parsers_read_messages.Goals as goal

pub returns : goal.returns
returns c = record { start = starts (data_in name_at); more = gives ParseError; refused = refuses; over = ends ParseError }
