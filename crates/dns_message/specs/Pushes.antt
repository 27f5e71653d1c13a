-- Pushes one after another: which of them are accepted, what they leave, and which records they add.
use Rattle.dns_wire.specs.Octets.{Labels}
use Rattle.dns_wire.specs.declared.sizes.TheConstants.{HEADER_SIZE}
use Rattle.std.specs.Prelude.{ℕ, ◌+◌, ◌<◌, ◌^◌, List, [], ◌∷◌, ◌++◌, length, Bool, not, ◌&&◌, nat_lt, nat_le, if◌then◌else◌}
use Rattle.dns_wire.specs.Compression.{CompressedWrite, compressed_name_writes, written_octets}
use Rattle.dns_wire.specs.Names.{IsName}
use Rattle.dns_record.specs.InMessage.{question_writes}
use Rattle.dns_message.specs.Building.{Draft, count_in, has_later, pushed}
use Rattle.dns_message.specs.Built.{built}
use Rattle.dns_message.specs.Messages.{RecordValue}
use Rattle.dns_message.specs.WellFormed.{WellFormed}

-- a question of a name, a type and a class, whose name is compressed; or for a section a record, whose owner is compressed and so
-- are its names that pointers may lead through
pub data Push : Type 0 where
  Ask : Labels → ℕ → ℕ → Push
  Add : ℕ → RecordValue → Push

-- a question's labels are a name, and its numbers fit their octets; a record is well formed, and of one of the three sections
-- after the questions
abbrev pub IsPush : Push → Type 0
IsPush (Ask labels qtype class) = IsName labels × (qtype < 2 ^ 16) × (class < 2 ^ 16)
IsPush (Add section r) = (0 < section) × (section < 4) × WellFormed r

-- the number of its section
abbrev pub push_section : Push → ℕ
push_section (Ask labels qtype class) = 0
push_section (Add section r) = section

-- what it writes
abbrev pub push_writes : Push → CompressedWrite
push_writes (Ask labels qtype class) = question_writes (compressed_name_writes labels) qtype class
push_writes (Add section r) = built r

-- the record that it adds: a question adds none
abbrev pub push_records : Push → List RecordValue
push_records (Ask labels qtype class) = []
push_records (Add section r) = r ∷ []

-- no later section has an item, its own has fewer than 65,535, and its octets are no more than the free ones
abbrev pub is_accepted : Push → Draft → Bool
is_accepted push draft =
    not (has_later (push_section push) draft.header)
    && (nat_lt (count_in (push_section push) draft.header) 65535
    && nat_le (HEADER_SIZE + length draft.contents + length (written_octets (push_writes push draft.contents draft.places))) draft.size)

-- what it leaves: the draft as it was, if it is refused
abbrev pub after_push : Push → Draft → Draft
after_push push draft = if is_accepted push draft then pushed (push_section push) (push_writes push) draft else draft

-- what pushes leave, one after another
abbrev pub after_pushes : List Push → Draft → Draft
after_pushes [] draft = draft
after_pushes (push ∷ pushes) draft = after_pushes pushes (after_push push draft)

-- the records of those that are accepted, in order
abbrev pub accepted_records : List Push → Draft → List RecordValue
accepted_records [] draft = []
accepted_records (push ∷ pushes) draft =
    (if is_accepted push draft then push_records push else []) ++ accepted_records pushes (after_push push draft)
