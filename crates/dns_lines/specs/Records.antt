-- The lines of a message's records.
use Rattle.std.specs.Prelude.{[], List, Bool, true, flat_map, Option, Some, None, if◌then◌else◌}
use Rattle.dns_wire.specs.Octets.{Octets, Labels}
use Rattle.dns_message.specs.Order.{SortKey}
use Rattle.dns_zone.specs.Zone.{is_of_zone_form}
use Rattle.dns_record_lines.specs.RecordLines.{record_line}
use Rattle.dns_lines.specs.Lines.{ended}

-- whether a record has a line: each has one, or where an apex is given those of its zone
abbrev pub has_line : Option Labels → SortKey → Bool
has_line None k = true
has_line (Some apex) k = is_of_zone_form apex k

-- the line of a record, if it has one
abbrev pub record_part : Option Labels → SortKey → Octets
record_part apex k = if has_line apex k then ended (record_line k) else []

-- the lines of records, in their order
abbrev pub record_lines : Option Labels → List SortKey → Octets
record_lines apex ks = flat_map (record_part apex) ks
