-- Record data, as the RDATA format of their type number says. The kinds of the RDATA format are read one after another, and end exactly at the
-- end.
use Rattle.std.specs.Prelude.{ℕ, List, Option, None, ◌==◌, if◌then◌else◌}
use Rattle.dns_wire.specs.Octets.{Octets}
use Rattle.dns_wire.specs.Reading.{all_of, all_at}
use Rattle.dns_record.specs.Fields.{FieldOf}
use Rattle.dns_record.specs.Kinds.{fields_of, fields_in}
use Rattle.dns_record.specs.Formats.{rdata_format}

-- the fields that all the octets spell, for a type number
unfoldable pub data_as : {N : Type 0} → (Octets → Option (N × Octets)) → ℕ → Octets → Option (List (FieldOf N))
data_as name rtype bytes = all_of (fields_of name (rdata_format rtype) bytes)

-- the fields from a place to the end of the contents, for a type number
unfoldable pub data_in : {N : Type 0} → (Octets → ℕ → Option (N × ℕ)) → ℕ → Octets → ℕ → Option (List (FieldOf N))
data_in name rtype contents at = all_at contents (fields_in name (rdata_format rtype) contents at)

-- what is read as data of one type, which are none of any other
abbrev pub of_type : {D : Type 0} → ℕ → ℕ → Option D → Option D
of_type wanted rtype read = if rtype == wanted then read else None
