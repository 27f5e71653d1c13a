-- What is seen of data that are kept in their own memory.
use Rattle.std.specs.Prelude.{ℕ}
use Rattle.dns_wire.specs.Octets.{Octets}
use Rattle.dns_boxed.specs.declared.boxed_record_data.BoxedRecordData.{BoxedRecordData}

-- the number of their type
abbrev pub boxed_type : BoxedRecordData → ℕ
boxed_type boxed = boxed.rtype.code.value

-- their octets, names whole
abbrev pub boxed_octets : BoxedRecordData → Octets
boxed_octets boxed = boxed.octets.items
