-- The fields of a record's line.
use Rattle.std.specs.Prelude.{◌≡◌, ◌≢◌}
use Rattle.std.specs.Int.{w32, to_be_bytes}
use Rattle.std.specs.List.{AllByRecursion}
use Rattle.dns_wire.specs.Octets.{Octets}
use Rattle.dns_message.specs.Forms.{form_owner_key}
use Rattle.dns_message.specs.Order.{SortKey}
use Rattle.dns_record_lines.specs.RecordLines.{class_and_type, digits, space}
use Rattle.dns_record_lines.specs.declared.line_fields.LineFields.{LineFields}
use Rattle.dns_record_lines.specs.declared.line_fields.LineNumbers.{LineNumbers}

-- no octet is a space
abbrev pub IsField : Octets → Type 0
IsField field = AllByRecursion (λ b. b ≢ space) field

-- the digits are those of the record's line
pub record AreFieldsOf (k : SortKey) (fields : LineFields) : Type 0 where
  pub key : fields.key.now ≡ digits (form_owner_key k)
  pub class_and_type : fields.class_and_type.now ≡ digits (class_and_type k)
  pub rdata : fields.rdata.now ≡ digits k.octets
  pub ttl : fields.ttl.now ≡ digits (to_be_bytes w32 k.ttl)

-- the numbers are the record's
pub record AreNumbersOf (k : SortKey) (numbers : LineNumbers) : Type 0 where
  pub class : numbers.rclass.code.value ≡ k.class
  pub rtype : numbers.rtype.code.value ≡ k.rtype
  pub ttl : numbers.ttl.value.value ≡ k.ttl
