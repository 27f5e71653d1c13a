-- What is put after canonical forms, by what is read.
use Rattle.std.proofs.Common.{◌≡◌, ◌≢◌, ℕ, Bool, true, false, List, [], ◌∷◌, ◌++◌, map, filter, Option, Some, None, append-nil, refl, sym, ap, ◌∙◌}
use Rattle.std.specs.Prelude.{MatchOption}
use Rattle.std.proofs.lemmas.List.{map-append}
use Rattle.dns_wire.specs.Octets.{Labels, Octets}
use Rattle.dns_wire.specs.Pointers.{name_at}
use Rattle.dns_wire.specs.Steps.{first_to}
use Rattle.dns_record.specs.Fields.{Field}
use Rattle.dns_record.specs.Questions.{question_in}
use Rattle.dns_record.specs.Records.{Parts, record_in, record_of}
use Rattle.dns_message.specs.Canonical.{is_not_opt}
use Rattle.dns_message.specs.FormsRead.{AddsData, AddsForm, AddsRecord, forms_if, forms_of, forms_up_to}
use Rattle.dns_record.specs.FurtherFormats.{DataReading}
use Rattle.dns_message.specs.Messages.{Item, Question, RecordValue, records_among, item_by}
use Rattle.dns_message.specs.Messages.Item.{QuestionItem, RecordItem}
use Rattle.dns_message.specs.Order.{SortKey, sort_key}
use Rattle.dns_message.specs.Parsing.{AddsItemBy}
use Rattle.dns_message.specs.UnparsedRecords.{with_data}
use Rattle.dns_message.proofs.Adding.{question_there, record_there}

-- ---- for the data of a record, and so for the record

pub data_adds : (reads : DataReading) (contents : Octets) (start : ℕ) (owner : Labels) (p : Parts) (end : ℕ) (old : List SortKey) (read : Option (List Field)) (is_read : Bool) (new : List SortKey)
    → record_in name_at reads contents start ≡ with_data owner p end read → AddsData old owner p read (forms_if new is_read) → is_read ≡ true
    → (x : RecordValue) × (record_in name_at reads contents start ≡ Some (x, end)) × (new ≡ old ++ forms_of (x ∷ []))
data_adds reads contents start owner p end old read true new there adds is = (record_of owner p adds.0, there ∙ ap (with_data owner p end) adds.1, adds.2)
data_adds reads contents start owner p end old read false new there adds is = absurd cc

pub data_adds_none : (reads : DataReading) (contents : Octets) (start : ℕ) (owner : Labels) (p : Parts) (end : ℕ) (old : List SortKey) (read : Option (List Field)) (is_read : Bool) (new : List SortKey)
    → record_in name_at reads contents start ≡ with_data owner p end read → AddsData old owner p read (forms_if new is_read) → is_read ≡ false → record_in name_at reads contents start ≡ None
data_adds_none reads contents start owner p end old read true new there adds is = absurd cc
data_adds_none reads contents start owner p end old read false new there adds is = there ∙ ap (with_data owner p end) adds

-- ---- for an item

pub record_adds_form : (reads : DataReading) (section : ℕ) (contents : Octets) (start : ℕ) (old : List SortKey) (found : Option (List SortKey × ℕ)) → section ≢ 0
    → AddsRecord old (record_in name_at reads contents start) found → AddsForm old (item_by reads section contents start) found
record_adds_form reads section contents start old None is_not adds = record_there reads section contents start is_not ∙ ap (first_to RecordItem) adds
record_adds_form reads section contents start old (Some (new, end)) is_not adds = (RecordItem adds.0, record_there reads section contents start is_not ∙ ap (first_to RecordItem) adds.1, adds.2)

question_adds_form : (reads : DataReading) (section : ℕ) (contents : Octets) (start : ℕ) (old : List SortKey) (end : ℕ) → section ≡ 0 → (q : Question) × (question_in name_at contents start ≡ Some (q, end))
    → (item : Item) × (item_by reads section contents start ≡ Some (item, end)) × (old ≡ old ++ forms_of (records_among (item ∷ [])))
question_adds_form reads section contents start old end is found = (QuestionItem found.0, question_there reads section contents start is ∙ ap (first_to QuestionItem) found.1, sym (append-nil old))

question_is_not_read : (reads : DataReading) (section : ℕ) (contents : Octets) (start : ℕ) → section ≡ 0 → question_in name_at contents start ≡ None → item_by reads section contents start ≡ None
question_is_not_read reads section contents start is none = question_there reads section contents start is ∙ ap (first_to QuestionItem) none

pub question_adds : (reads : DataReading) (section : ℕ) (contents : Octets) (start : ℕ) (old : List SortKey) (found : Option ℕ) → section ≡ 0
    → MatchOption found (question_in name_at contents start ≡ None) (λ end. (q : Question) × (question_in name_at contents start ≡ Some (q, end)))
    → AddsForm old (item_by reads section contents start) (forms_up_to old found)
question_adds reads section contents start old None is none = question_is_not_read reads section contents start is none
question_adds reads section contents start old (Some end) is found = question_adds_form reads section contents start old end is found

-- ---- after the forms of some records

pub form_adds : (reads : DataReading) (section : ℕ) (contents : Octets) (start : ℕ) (old : List RecordValue) (forms new : List SortKey) (end : ℕ) → forms ≡ map sort_key old → AddsForm forms (item_by reads section contents start) (Some (new, end))
    → (more : List RecordValue) × AddsItemBy reads section contents start old more (Some end) × (new ≡ map sort_key more)
form_adds reads section contents start old forms new end are adds =
    let added = filter is_not_opt (records_among (adds.0 ∷ [])) in
    (old ++ added, (adds.0, adds.1, refl), adds.2 ∙ ap (λ (l : List SortKey). l ++ map sort_key added) are ∙ sym (map-append sort_key old added))
