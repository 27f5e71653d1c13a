use Rattle.std.proofs.Common.{◌≡◌, List, length, drop, map}
use Rattle.dns_record.specs.FurtherFormats.{data_by}
use Rattle.dns_message.specs.Messages.{RecordValue}
use Rattle.dns_message.specs.Order.{sort_key}
use Rattle.dns_message.specs.Owners.{WasRead}
use Rattle.dns_message.specs.Parsing.{slots_ahead}
use Rattle.dns_message.proofs.Chained.{ReadSoFar}
use Rattle.dns_message.proofs.form_reader.read_into.Given as goal

-- the forms so far are those of the records so far
abbrev pub invariant-loop-position : goal.invariant-loop-position
invariant-loop-position l = record { read : (rs : List RecordValue) × ReadSoFar (data_by l.formats) l.message l.parser rs × (l.forms ≡ map sort_key rs); names : l.names ≡ drop 12 l.message; owner : WasRead l.names l.room.owner }

abbrev pub decreases-loop-position : goal.decreases-loop-position
decreases-loop-position l = length (slots_ahead l.parser)
