-- Canonical octets (RFC 4034 section 6.2, RFC 6840 section 5.1).
use Rattle.dns_wire.specs.Octets.{Octets}
use Rattle.dns_record.specs.Types.{opt_number}
use Rattle.std.specs.Prelude.{Option, Bool, not, ◌==◌}
use Rattle.dns_wire.specs.Names.{wire, lowered, plain_name}
use Rattle.dns_record.specs.Data.{data_as}
use Rattle.dns_record.specs.Fields.{fields_octets, canonical_fields}
use Rattle.dns_record.specs.Records.{record_at, octets_of_parts}
use Rattle.dns_message.specs.Messages.{RecordValue}

-- the record with its owner in lowercase, and its names if its type is one of the nine
abbrev pub lowercase_names : RecordValue → RecordValue
lowercase_names r = record { owner = lowered r.owner; rtype = r.rtype; class = r.class; ttl = r.ttl; content = canonical_fields r.rtype r.content }

-- a record's octets, names whole
abbrev pub record_octets : RecordValue → Octets
record_octets r = octets_of_parts (wire r.owner) r.rtype r.class r.ttl (fields_octets r.content)

-- the record at the start of octets, its names without pointers, and what follows it
abbrev pub plain_record : Octets → Option (RecordValue × Octets)
plain_record = record_at plain_name (data_as plain_name)

-- the canonical octets: those of the lowercased record
abbrev pub canonical_wire : RecordValue → Octets
canonical_wire r = record_octets (lowercase_names r)

-- a record of another type than OPT, which is a record in form alone (RFC 6891 section 6.1.1)
abbrev pub is_not_opt : RecordValue → Bool
is_not_opt r = not (r.rtype == opt_number)
