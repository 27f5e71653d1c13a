-- Records as they are built in a message, where names are shared (RFC 1035 section 4.1.4).
use Rattle.std.specs.Prelude.{◌≡◌, ℕ, Some, map}
use Rattle.dns_wire.specs.Octets.{Octets, Labels}
use Rattle.dns_wire.specs.Compression.{CompressedWrite, compressed_name_writes}
use Rattle.dns_wire.specs.Names.{lowered}
use Rattle.dns_wire.specs.Layout.{LayoutPart, laid}
use Rattle.dns_wire.specs.Layout.LayoutPart.{NamePart, OctetsPart}
use Rattle.dns_wire.specs.Pointers.{name_at}
use Rattle.dns_record.specs.Data.{data_in}
use Rattle.dns_record.specs.Fields.{Field}
use Rattle.dns_record.specs.InMessage.{of_field, fixed_header, record_writes}
use Rattle.dns_record.specs.Questions.{question_in}
use Rattle.dns_record.specs.Records.{record_in}
use Rattle.dns_message.specs.Canonical.{lowercase_names}
use Rattle.dns_message.specs.Messages.{RecordValue}

-- a name that pointers may lead through is compressed, and any other field is whole
abbrev pub field_part : Field → LayoutPart
field_part = of_field NamePart OctetsPart

-- the owner is compressed, and after the numbers and the size come the fields, part by part
abbrev pub built : RecordValue → CompressedWrite
built r = record_writes (compressed_name_writes r.owner) (fixed_header r.rtype r.class r.ttl) (laid (map field_part r.content))

-- a record is read from a place up to an end which is this one, except for ASCII case where it does not count
pub record ReadAgain (contents : Octets) (at : ℕ) (r : RecordValue) (end : ℕ) : Type 0 where
  pub there : RecordValue
  pub read : record_in name_at (data_in name_at) contents at ≡ Some (there, end)
  pub alike : lowercase_names there ≡ lowercase_names r

-- and such a question
pub record QuestionAgain (contents : Octets) (at : ℕ) (labels : Labels) (qtype class end : ℕ) : Type 0 where
  pub there : Labels
  pub read : question_in name_at contents at ≡ Some (record { name = there; qtype = qtype; class = class }, end)
  pub alike : lowered there ≡ lowered labels
