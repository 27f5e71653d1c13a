-- A message that is built item by item: what is seen of it, and what a push answers and leaves.
use Rattle.dns_wire.specs.Octets.{Octets, Places}
use Rattle.dns_wire.specs.declared.sizes.TheConstants.{HEADER_SIZE}
use Rattle.std.specs.Prelude.{◌≡◌, ℕ, ◌+◌, ◌*◌, ◌<◌, ◌≤◌, List, ◌++◌, length, take, drop, slice_index, Bool, nat_lt, ◌==◌, if◌then◌else◌, Result, Ok, Err, IsTrue, IsFalse}
use Rattle.std.specs.List.{list_any}
use Rattle.std.specs.Int.{w16, to_be_bytes}
use Rattle.dns_wire.specs.Compression.{CompressedWrite, written_octets, places_afterwards}
use Rattle.dns_record.specs.InMessage.{question_writes, fixed_header, record_writes, record_fits}
use Rattle.dns_record.specs.declared.question.Question.{Question as QuestionOf}
use Rattle.dns_record.specs.declared.record.Record.{Record as RecordOf}
use Rattle.dns_message.specs.Messages.{counts_of}
use Rattle.dns_message.specs.declared.build_error.MessageBuildError.{MessageBuildError}
use Rattle.dns_message.specs.declared.build_error.MessageBuildError.TheVariants.{Misplaced, TooMany, Truncated}
use Rattle.dns_message.specs.declared.builder.Section.{Section}
use Rattle.dns_message.specs.declared.builder.Section.TheVariants.{Question, Answer, Authority, Additional}

-- What is seen of a builder: the header's twelve octets, the contents so far, how many octets its buffer has, and where in
-- the contents names begin that are known.
pub record Draft : Type 0 where
  pub header : Octets
  pub contents : Octets
  pub size : ℕ
  pub places : Places

-- the octets of the message so far
abbrev pub drafted : Draft → Octets
drafted draft = draft.header ++ draft.contents

-- the number of a section, from 0
abbrev pub section_number : Section → ℕ
section_number Question = 0
section_number Answer = 1
section_number Authority = 2
section_number Additional = 3

-- how many items a section has
abbrev pub count_in : ℕ → Octets → ℕ
count_in section header = slice_index (counts_of header) section

-- one of the counts is above 0
abbrev pub has_items : Octets → Bool
has_items counts = list_any (λ count. nat_lt 0 count) counts

-- a section after this one has an item
abbrev pub has_later : ℕ → Octets → Bool
has_later section header = has_items (drop (section + 1) (counts_of header))

-- how many items a section has with one more, of these counts, or why it can have no more
abbrev pub count_after : ℕ → List ℕ → Result ℕ MessageBuildError
count_after section counts =
    if has_items (drop (section + 1) counts) then Err Misplaced
    else if slice_index counts section == 65535 then Err TooMany
    else Ok (slice_index counts section + 1)

-- the same of a header
abbrev pub next_count : ℕ → Octets → Result ℕ MessageBuildError
next_count section header = count_after section (counts_of header)

-- the header with another count of a section, whose two octets are after id, flags and the counts of those before it
abbrev pub with_count : ℕ → ℕ → Octets → Octets
with_count section count header = take (4 + 2 * section) header ++ to_be_bytes w16 count ++ drop (6 + 2 * section) header

-- ---- what items write

-- a question: its name, and type and class as they are
abbrev pub question_compressed : {N : Type 0} → (N → CompressedWrite) → QuestionOf N → CompressedWrite
question_compressed name q = question_writes (name q.qname) q.qtype.code.value q.qclass.code.value

-- a record: its owner, ten octets and its data after their size
abbrev pub record_compressed : {N D : Type 0} → (N → CompressedWrite) → (D → CompressedWrite) → RecordOf N D → CompressedWrite
record_compressed owner content r =
    record_writes (owner r.rname) (fixed_header r.rtype.code.value r.rclass.code.value r.ttl.value.value) (content r.rdata)

-- what is prefixed in it fits, and its data are no more octets than their size can say
abbrev pub record_fits_in : {N D : Type 0} → (N → Octets → Places → Type 0) → (N → CompressedWrite) → (D → Octets → Places → Type 0) → (D → CompressedWrite) → RecordOf N D → Octets → Places → Type 0
record_fits_in owner_fits owner content_fits content r =
    record_fits (owner_fits r.rname) (owner r.rname) (fixed_header r.rtype.code.value r.rclass.code.value r.ttl.value.value) (content_fits r.rdata) (content r.rdata)

-- ---- what a push answers and leaves

-- what an accepted push leaves: one more item is counted, and its octets are after the contents
abbrev pub pushed : ℕ → CompressedWrite → Draft → Draft
pushed section writes draft = record {
  header = with_count section (count_in section draft.header + 1) draft.header;
  contents = draft.contents ++ written_octets (writes draft.contents draft.places);
  size = draft.size;
  places = places_afterwards (writes draft.contents draft.places);
}

-- the item's prefixed data fit their prefixes, and its octets the rest of the buffer
abbrev pub HasRoom : (Octets → Places → Type 0) → CompressedWrite → Draft → Type 0
HasRoom fits writes draft =
    fits draft.contents draft.places
    × (HEADER_SIZE + length draft.contents + length (written_octets (writes draft.contents draft.places)) ≤ draft.size)

-- When a push gives each answer. The causes exclude one another, in the order of the refusals.
abbrev pub PushResults : {A : Type 0} → ℕ → (Octets → Places → Type 0) → CompressedWrite → Draft → Result A MessageBuildError → Type 0
PushResults section fits writes draft (Err Misplaced) = IsTrue (has_later section draft.header)
PushResults section fits writes draft (Err TooMany) =
    IsFalse (has_later section draft.header) × (count_in section draft.header ≡ 65535)
PushResults section fits writes draft (Err Truncated) =
    IsFalse (has_later section draft.header) × (count_in section draft.header < 65535) × ¬ (HasRoom fits writes draft)
PushResults section fits writes draft (Ok done) =
    IsFalse (has_later section draft.header) × (count_in section draft.header < 65535) × HasRoom fits writes draft
