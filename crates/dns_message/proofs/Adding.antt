-- What an item adds to the records, by what is read of it.
use Rattle.std.proofs.Common.{◌≡◌, ◌≢◌, ℕ, List, drop, Option, refl}
use Rattle.std.proofs.lemmas.Bool.{ne_eqb}
use Rattle.dns_wire.specs.Octets.{Octets}
use Rattle.dns_wire.specs.Pointers.{name_at}
use Rattle.dns_wire.specs.Steps.{first_to}
use Rattle.dns_record.specs.Questions.{question_in}
use Rattle.dns_record.specs.Records.{record_in}
use Rattle.dns_record.specs.FurtherFormats.{DataReading}
use Rattle.dns_message.specs.Messages.{RecordValue, item_by}
use Rattle.dns_message.specs.Messages.Item.{QuestionItem, RecordItem}
use Rattle.dns_message.specs.Parsing.{AddsItemBy}

pub question_there : (reads : DataReading) (section : ℕ) (contents : Octets) (start : ℕ) → section ≡ 0 → item_by reads section contents start ≡ first_to QuestionItem (question_in name_at contents start)
unfolding item_by
question_there reads section contents start is = rw is refl

pub record_there : (reads : DataReading) (section : ℕ) (contents : Octets) (start : ℕ) → section ≢ 0 → item_by reads section contents start ≡ first_to RecordItem (record_in name_at reads contents start)
unfolding item_by
record_there reads section contents start is_not = rw (ne_eqb section 0 is_not) refl

-- what an item adds is the same at the place of a parser
pub placed : (reads : DataReading) (section : ℕ) (contents m : Octets) (start place : ℕ) (old new : List RecordValue) (end : Option ℕ) → contents ≡ drop 12 m → start ≡ place
    → AddsItemBy reads section contents start old new end → AddsItemBy reads section (drop 12 m) place old new end
placed reads section contents m start place old new end there here adds = rw (there, here) at adds
