-- Records whose data are as they are, to be read when their type is known.
use Rattle.std.specs.Prelude.{◌≡◌, ◌≤◌, ℕ, ◌-◌, List, drop, length, take, Option, Some}
use Rattle.dns_wire.specs.Octets.{Octets, Labels}
use Rattle.dns_wire.specs.Steps.{◌>>=◌}
use Rattle.dns_record.specs.Fields.{Field}
use Rattle.dns_record.specs.Records.{Parts, record_of}
use Rattle.dns_message.specs.Messages.{RecordValue}

-- an owner that was read before
abbrev pub owner_before : Labels → Octets → ℕ → Option (Labels × ℕ)
owner_before labels contents at = Some (labels, at)

-- the record of this owner and these parts, and its end, if its data are read
abbrev pub with_data : Labels → Parts → ℕ → Option (List Field) → Option (RecordValue × ℕ)
with_data owner parts end read = do
  content ← read
  Some (record_of owner parts content, end)

-- where the data begin that end there
abbrev pub data_start : ℕ → Octets → ℕ
data_start end octets = end - length octets

-- these octets of the contents are those before the end
abbrev pub DataAreAt : Octets → Octets → ℕ → Type 0
DataAreAt contents octets end = (length octets ≤ end) × (octets ≡ drop (data_start end octets) (take end contents))
