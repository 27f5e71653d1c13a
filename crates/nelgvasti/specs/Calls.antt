-- What the calls for C answer and write.
use Rattle.std.specs.Prelude.{◌≡◌, ◌≢◌, ℕ, ◌⊎◌, List, nat_lt, length, Some, true, if◌then◌else◌, ℤ, pos, negsuc}
use Rattle.std.specs.List.{concat}
use Rattle.std.specs.declared.cmp.Ordering.{Ordering}
use Rattle.std.specs.declared.cmp.Ordering.TheVariants.{Less, Equal, Greater}
use Rattle.dns_wire.specs.Names.{IsName, wire}
use Rattle.dns_wire.specs.Octets.{Octets, Labels}
use Rattle.dns_wire.specs.Reading.{all_of}
use Rattle.dns_message.specs.Canonical.{is_not_opt, plain_record}
use Rattle.dns_message.specs.Messages.{Reading, RecordValue, records_among}
use Rattle.dns_message.specs.Messages.Reading.{Short, Stopped, Whole}
use Rattle.dns_message.specs.Order.{canonical_list}
use Rattle.dns_message.specs.declared.message.TheConstants.{MAX_MESSAGE_SIZE}
use Rattle.nelgvasti.specs.Buffers.{room_answer}
use Rattle.nelgvasti.specs.declared.answers.TheConstants.{SHORT, ITEM, MEMORY, TOO_LARGE}

-- ---- answers

-- the expected answer, or that memory ran out
abbrev pub AnswersOrMemory : ℕ → ℕ → Type 0
AnswersOrMemory expected answer = (answer ≡ expected) ⊎ (answer ≡ MEMORY)

-- the answer to a message that is read so; to one that is read whole by its records
abbrev pub reading_answer : (List RecordValue → ℕ) → Reading → ℕ
reading_answer answer Short = SHORT
reading_answer answer (Stopped items section index place) = ITEM
reading_answer answer (Whole items end) = answer (records_among items)

-- the answer to a normal form that is to be written to a buffer with that much room
abbrev pub normal_answer : Octets → ℕ → ℕ
normal_answer form room = if nat_lt MAX_MESSAGE_SIZE (length form) then TOO_LARGE else room_answer form room

-- the number 1 if it holds, and 0 if it does not
abbrev pub SaysWhether : Type 0 → ℕ → Type 0
SaysWhether P number = ((number ≡ 1) × P) ⊎ ((number ≡ 0) × ¬ P)

-- the number for an order
abbrev pub order_number : Ordering → ℤ
order_number Less = negsuc 0
order_number Equal = pos 0
order_number Greater = pos 1

-- ---- what octets are

-- the octets of the canonical list of some records, one record after the other
abbrev pub list_octets : List RecordValue → Octets
list_octets rs = concat (canonical_list rs)

-- the octets are those of the name of these labels (RFC 1035 section 3.1)
abbrev pub HasName : Octets → Labels → Type 0
HasName octets labels = IsName labels × (octets ≡ wire labels)

-- they are those of no name
abbrev pub HasNoName : Octets → Type 0
HasNoName octets = (labels : Labels) → IsName labels → octets ≢ wire labels

-- the octets are read whole as this record, its names without pointers, and it is of another type than OPT
abbrev pub HasRecord : Octets → RecordValue → Type 0
HasRecord octets r = (all_of (plain_record octets) ≡ Some r) × (is_not_opt r ≡ true)

-- they are read as no such record
abbrev pub HasNoRecord : Octets → Type 0
HasNoRecord octets = (r : RecordValue) → ¬ HasRecord octets r
