-- The records of the message that a text spells.
use Rattle.std.proofs.Common.{◌≡◌, ℕ, List, sym, subst, ◌∙◌}
use Rattle.std.specs.List.{All}
use Rattle.dns_text.specs.Hexadecimal.{trim}
use Rattle.dns_text.proofs.HexadecimalLemmas.{spelled_octets}
use Rattle.dns_wire.specs.Pointers.{name_at}
use Rattle.dns_record.specs.Data.{data_in}
use Rattle.dns_record.specs.FurtherFormats.{DataReading}
use Rattle.dns_message.specs.Messages.{RecordValue, ValidBy}
use Rattle.dns_command.specs.Texts.{HasRecords, HasRecordsBy}
use Rattle.dns_message.specs.WellFormed.{WellFormed}
use Rattle.dns_message.proofs.OneReading.{valid_one_by}
use Rattle.dns_message.proofs.WellFormedLemmas.{all_well}

-- a text spells one message at most, which has one list of records
pub one_records_by : (reads : DataReading) (t : List ℕ) (rs ss : List RecordValue) → HasRecordsBy reads t rs → HasRecordsBy reads t ss → rs ≡ ss
one_records_by reads t rs ss (m, spells, valid) (n, also, other) =
    let same : m ≡ n = (let e = sym spells ∙ also in cc) in
    valid_one_by reads n rs ss (subst (λ (l : List ℕ). ValidBy reads l rs) same valid) other

pub one_records : (t : List ℕ) (rs ss : List RecordValue) → HasRecords t rs → HasRecords t ss → rs ≡ ss
one_records = one_records_by (data_in name_at)

pub text_well : (t : List ℕ) (rs : List RecordValue) → HasRecords t rs → All WellFormed rs
text_well t rs (m, spells, valid) = all_well m rs (spelled_octets (trim t) m spells) valid
