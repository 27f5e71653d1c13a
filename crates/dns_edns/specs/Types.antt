-- The fields of OPT data.
use Rattle.std.specs.Prelude.{List, [], ◌∷◌}
use Rattle.dns_wire.specs.Octets.{Octets}
use Rattle.dns_record.specs.Fields.{Field}
use Rattle.dns_record.specs.Fields.FieldOf.{OtherOctets}

-- of the octets of the options
abbrev pub opt_fields : Octets → List Field
opt_fields octets = OtherOctets octets ∷ []
