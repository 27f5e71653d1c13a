-- What is after the first of several fields, and whether fields are all that there is.
use Rattle.std.specs.Prelude.{◌≡◌, Bool, true, false, List, Option, Some, None}
use Rattle.dns_wire.specs.Octets.{Octets}
use Rattle.dns_record.specs.Fields.{Field}
use denote.Ref.{Bor}

abbrev pub AfterField : Option (Field × Octets) → Option (Bor Octets) → Type 0
AfterField read None = read ≡ None
AfterField read (Some rest) = (field : Field) × (read ≡ Some (field, rest.now))

abbrev pub AreFields : Option (List Field) → Bool → Type 0
AreFields read false = read ≡ None
AreFields read true = (fields : List Field) × (read ≡ Some fields)
