-- What a push wrote is read after the contents, so the message after it has one more item.
use Rattle.std.proofs.Common.{◌≡◌, ℕ, ◌<◌, ◌^◌, false, List, [], ◌∷◌, ◌++◌, length, Some, sym, ap, ◌∙◌, arith}
use Rattle.std.proofs.lemmas.Bool.{ne_eqb}
use Rattle.std.proofs.lemmas.List.{length-append, append-nil}
use Rattle.dns_wire.specs.Compression.{FitsIn, compressed_name_writes}
use Rattle.dns_wire.specs.Names.{IsName, lowered}
use Rattle.dns_wire.specs.Pointers.{name_at}
use Rattle.dns_wire.specs.Steps.{first_to}
use Rattle.dns_record.specs.Data.{data_in}
use Rattle.dns_record.specs.InMessage.{question_writes}
use Rattle.dns_record.specs.Questions.{question_in}
use Rattle.dns_record.specs.Records.{record_in}
use Rattle.dns_message.specs.Building.{Draft, drafted, count_in, has_later, pushed}
use Rattle.dns_message.specs.Built.{built}
use Rattle.dns_message.specs.Canonical.{lowercase_names}
use Rattle.dns_message.specs.Messages.{Item, Question, RecordValue, item_at, message_reading, item_by}
use Rattle.dns_message.specs.Messages.Item.{QuestionItem, RecordItem}
use Rattle.dns_message.specs.Messages.Reading.{Whole}
use Rattle.dns_message.specs.WellFormed.{WellFormed}
use Rattle.dns_message.proofs.Pushed.{pushed_whole}
use Rattle.dns_message.proofs.BuiltLemmas.{record_read_again, question_read_again}

record_item_at : (section : ℕ) (contents : List ℕ) (at : ℕ) (found : RecordValue) (end : ℕ) → 0 < section → record_in name_at (data_in name_at) contents at ≡ Some (found, end) → item_at section contents at ≡ Some (RecordItem found, end)
unfolding item_by
record_item_at section contents at found end some e = rw (ne_eqb section 0 (λ none. absurd (omega (arith, some, none)))) (ap (first_to RecordItem) e)

question_item_at : (contents : List ℕ) (at : ℕ) (question : Question) (end : ℕ) → question_in name_at contents at ≡ Some (question, end) → item_at 0 contents at ≡ Some (QuestionItem question, end)
unfolding item_by
question_item_at contents at question end e = ap (first_to QuestionItem) e

module _ (draft : Draft) (items : List Item) (long : length draft.header ≡ 12) (read : message_reading (drafted draft) ≡ Whole items (length draft.contents)) (fits : FitsIn draft.places draft.contents) where
  pub pushed_record : (section : ℕ) (r : RecordValue) → 0 < section → section < 4 → has_later section draft.header ≡ false → count_in section draft.header < 65535 → WellFormed r
      → (there : RecordValue) × (lowercase_names there ≡ lowercase_names r) × (message_reading (drafted (pushed section (built r) draft)) ≡ Whole (items ++ RecordItem there ∷ []) (length (pushed section (built r) draft).contents))
  pushed_record section r some small none few is =
      let c = draft.contents in
      let o = (built r c draft.places).0 in
      let again = record_read_again r c draft.places [] is fits in
      let found : record_in name_at (data_in name_at) (c ++ o) (length c) ≡ Some (again.there, length (c ++ o)) =
      ap (λ (l : List ℕ). record_in name_at (data_in name_at) l (length c)) (sym (append-nil (c ++ o))) ∙ again.read ∙ ap (λ (n : ℕ). Some (again.there, n)) (sym (length-append c o)) in
      (again.there, again.alike, pushed_whole section (built r) draft items (RecordItem again.there) small long none few read (record_item_at section (c ++ o) (length c) again.there (length (c ++ o)) some found))

  pub pushed_question : (labels : List (List ℕ)) (qtype class : ℕ) → has_later 0 draft.header ≡ false → count_in 0 draft.header < 65535 → IsName labels → qtype < 2 ^ 16 → class < 2 ^ 16
      → (there : List (List ℕ)) × (lowered there ≡ lowered labels) × (message_reading (drafted (pushed 0 (question_writes (compressed_name_writes labels) qtype class) draft)) ≡ Whole (items ++ QuestionItem (record { name = there; qtype = qtype; class = class }) ∷ []) (length (pushed 0 (question_writes (compressed_name_writes labels) qtype class) draft).contents))
  pushed_question labels qtype class none few is small low =
      let c = draft.contents in
      let writes = question_writes (compressed_name_writes labels) qtype class in
      let o = (writes c draft.places).0 in
      let again = question_read_again labels qtype class c draft.places [] is small low fits in
      let asked : Question = record { name = again.there; qtype = qtype; class = class } in
      let found : question_in name_at (c ++ o) (length c) ≡ Some (asked, length (c ++ o)) =
      ap (λ (l : List ℕ). question_in name_at l (length c)) (sym (append-nil (c ++ o))) ∙ again.read ∙ ap (λ (n : ℕ). Some (asked, n)) (sym (length-append c o)) in
      (again.there, again.alike, pushed_whole 0 writes draft items (QuestionItem asked) (omega arith) long none few read (question_item_at (c ++ o) (length c) asked (length (c ++ o)) found))
