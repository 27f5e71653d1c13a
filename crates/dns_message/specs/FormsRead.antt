-- What is put after canonical forms for what is read of a message: the form of a record of another type than OPT, and nothing of others.
use Rattle.std.specs.Prelude.{◌≡◌, ℕ, Bool, true, false, List, [], ◌∷◌, ◌++◌, filter, map, Option, Some, None}
use Rattle.dns_wire.specs.Octets.{Labels}
use Rattle.dns_record.specs.Fields.{Field}
use Rattle.dns_record.specs.Records.{Parts, record_of}
use Rattle.dns_message.specs.Canonical.{is_not_opt}
use Rattle.dns_message.specs.Messages.{Item, RecordValue, records_among}
use Rattle.dns_message.specs.Order.{SortKey, sort_key}

-- the forms of some records, if they are of other types than OPT
abbrev pub forms_of : List RecordValue → List SortKey
forms_of rs = map sort_key (filter is_not_opt rs)

-- the forms, if something was read
abbrev pub forms_if : List SortKey → Bool → Option (List SortKey)
forms_if forms false = None
forms_if forms true = Some forms

-- the forms up to where something ends, if it was read
abbrev pub forms_up_to : List SortKey → Option ℕ → Option (List SortKey × ℕ)
forms_up_to forms None = None
forms_up_to forms (Some end) = Some (forms, end)

-- for the data of a record with this owner and these parts
abbrev pub AddsData : List SortKey → Labels → Parts → Option (List Field) → Option (List SortKey) → Type 0
AddsData old owner parts read None = read ≡ None
AddsData old owner parts read (Some new) = (content : List Field) × (read ≡ Some content) × (new ≡ old ++ forms_of (record_of owner parts content ∷ []))

-- for a record, up to its end
abbrev pub AddsRecord : List SortKey → Option (RecordValue × ℕ) → Option (List SortKey × ℕ) → Type 0
AddsRecord old read None = read ≡ None
AddsRecord old read (Some (new, end)) = (r : RecordValue) × (read ≡ Some (r, end)) × (new ≡ old ++ forms_of (r ∷ []))

-- for an item, up to its end
abbrev pub AddsForm : List SortKey → Option (Item × ℕ) → Option (List SortKey × ℕ) → Type 0
AddsForm old read None = read ≡ None
AddsForm old read (Some (new, end)) = (item : Item) × (read ≡ Some (item, end)) × (new ≡ old ++ forms_of (records_among (item ∷ [])))
