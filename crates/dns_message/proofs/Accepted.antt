-- Pushes one after another: each that is accepted adds its item, and a later one finds what it needs.
use Rattle.std.proofs.Common.{◌≡◌, ℕ, ◌+◌, ◌<◌, ◌≤◌, Bool, true, false, cond, List, [], ◌∷◌, ◌++◌, length, refl, sym, ap, ap₂, subst, ◌∙◌, append_assoc, arith}
use Rattle.std.specs.Prelude.{◌↔◌, ◌&&◌, not, nat_lt, nat_le, map, Result, Ok, Err, IsOk, IsTrue, is_ok}
use Rattle.std.specs.Cmp.{first_so, second_so}
use Rattle.std.specs.Int.{w16, to_be_bytes}
use Rattle.std.specs.List.{AllByRecursion}
use Rattle.std.proofs.lemmas.Bool.{ltb-true, leb-true, lt-ltb, le-leb}
use Rattle.std.proofs.lemmas.List.{append-nil, map-append}
use Rattle.dns_wire.specs.Compression.{CompressedWrite, FitsIn, compress, recorded, compressed_name_writes}
use Rattle.dns_wire.specs.Names.{IsName}
use Rattle.dns_wire.specs.Layout.{laid}
use Rattle.dns_wire.specs.Layout.LayoutPart.{NamePart}
use Rattle.dns_wire.proofs.RunLemmas.{fits_more}
use Rattle.dns_num.specs.InMessage.{zeros}
use Rattle.dns_record.specs.InMessage.{fixed_header, question_writes}
use Rattle.dns_record.specs.Formats.{rdata_format}
use Rattle.dns_message.specs.Building.{Draft, drafted, count_in, has_later, pushed, PushResults}
use Rattle.dns_message.specs.Built.{field_part, built}
use Rattle.dns_message.specs.Canonical.{lowercase_names}
use Rattle.dns_message.specs.Messages.{Item, RecordValue, message_reading, records_among, Valid}
use Rattle.dns_message.specs.Messages.Item.{QuestionItem, RecordItem}
use Rattle.dns_message.specs.Messages.Reading.{Whole}
use Rattle.dns_message.specs.Order.{canonical_list}
use Rattle.dns_message.specs.Pushes.{Push, IsPush, push_section, push_writes, push_records, is_accepted, after_push, after_pushes, accepted_records}
use Rattle.dns_message.specs.Pushes.Push.{Ask, Add}
use Rattle.dns_message.specs.WellFormed.{WellFormed}
use Rattle.dns_message.specs.declared.build_error.MessageBuildError.{MessageBuildError}
use Rattle.dns_message.specs.declared.build_error.MessageBuildError.TheVariants.{Misplaced, TooMany, Truncated}
use Rattle.dns_message.proofs.Laid.{part_fits}
use Rattle.dns_message.proofs.OneReading.{valid_one}
use Rattle.dns_message.proofs.Pushed.{header_long}
use Rattle.dns_message.proofs.BuiltLemmas.{parts_are}
use Rattle.dns_message.proofs.Repushed.{pushed_record, pushed_question}
use Rattle.dns_message.proofs.CanonicalListSameness.{canonical_list_of_lowercased}
use Rattle.dns_message.proofs.SizedRead.{sized_laid_fits}
use Rattle.dns_message.proofs.SlotLemmas.{among_append}
use Rattle.dns_message.proofs.Whole.{content_suits}

-- ---- which answer a push gives

module _ (later : Bool) (count needed size : ℕ) where
  -- what the definition tests
  abbrev accepts : Bool
  accepts = not later && (nat_lt count 65535 && nat_le needed size)

  later_refused : later ≡ true → accepts ≡ false
  later_refused e = rw e refl

  full_refused : later ≡ false → count ≡ 65535 → accepts ≡ false
  full_refused e full = rw (e, full) refl

  short_refused : later ≡ false → count < 65535 → ¬ (needed ≤ size) → accepts ≡ false
  short_refused e few short = rw (e, lt-ltb count 65535 few) (by (nat_le needed size) refl) where
    by : (b : Bool) → nat_le needed size ≡ b → b ≡ false
    by true fits = absurd (short (leb-true needed size fits))
    by false fits = refl

  room_accepted : later ≡ false → count < 65535 → needed ≤ size → accepts ≡ true
  room_accepted e few room = rw (e, lt-ltb count 65535 few, le-leb needed size room) refl

module _ (section : ℕ) (fits : List ℕ → List ℕ → Type 0) (writes : CompressedWrite) (draft : Draft) (fit : fits draft.contents draft.places) where
  abbrev later : Bool
  later = has_later section draft.header

  abbrev count : ℕ
  count = count_in section draft.header

  abbrev needed : ℕ
  needed = 12 + length draft.contents + length (writes draft.contents draft.places).0

  answer_is : {A : Type 0} (result : Result A MessageBuildError) → PushResults section fits writes draft result → accepts later count needed draft.size ≡ is_ok result
  answer_is (Err Misplaced) answers = later_refused later count needed draft.size answers
  answer_is (Err TooMany) answers = full_refused later count needed draft.size answers.0 answers.1
  answer_is (Err Truncated) answers = short_refused later count needed draft.size answers.0 answers.1 (λ room. answers.2 (fit, room))
  answer_is (Ok done) answers = room_accepted later count needed draft.size answers.0 answers.1 answers.2.1

pub answers_ok : {A : Type 0} (push : Push) (fits : List ℕ → List ℕ → Type 0) (draft : Draft) (result : Result A MessageBuildError) → fits draft.contents draft.places → PushResults (push_section push) fits (push_writes push) draft result
    → IsOk result ↔ IsTrue (is_accepted push draft)
answers_ok push fits draft result fit answers =
    let same = answer_is (push_section push) fits (push_writes push) draft fit result answers in
    (λ ok. same ∙ ok, λ accepted. sym same ∙ accepted)

-- ---- the places after a push

module _ (contents places : List ℕ) (fits : FitsIn places contents) where
  question_fits : (labels : List (List ℕ)) (qtype class : ℕ) → IsName labels
      → FitsIn (question_writes (compressed_name_writes labels) qtype class contents places).1 (contents ++ (question_writes (compressed_name_writes labels) qtype class contents places).0)
  question_fits labels qtype class is =
      let p = compress contents places labels in
      let numbers = to_be_bytes w16 qtype ++ to_be_bytes w16 class in
      let known = recorded places (contents ++ p) (length contents) in
      subst (FitsIn known) (append_assoc contents p numbers) (fits_more (contents ++ p) numbers known (part_fits contents places fits (NamePart labels) is))

  record_fits : (r : RecordValue) → WellFormed r → FitsIn (built r contents places).1 (contents ++ (built r contents places).0)
  record_fits r is =
      let p = compress contents places r.owner in
      let numbers = fixed_header r.rtype r.class r.ttl in
      let known = recorded places (contents ++ p) (length contents) in
      let prefix = (contents ++ p) ++ numbers in
      let layout = map field_part r.content in
      let inner = laid layout (prefix ++ zeros w16) known in
      let sized = to_be_bytes w16 (length inner.0) ++ inner.0 in
      let before : FitsIn known prefix = fits_more (contents ++ p) numbers known (part_fits contents places fits (NamePart r.owner) is.owner) in
      let after : FitsIn inner.1 (prefix ++ (to_be_bytes w16 (length inner.0) ++ (inner.0 ++ []))) = sized_laid_fits w16 layout prefix known [] before (parts_are (rdata_format r.rtype) r.content (content_suits r is)) in
      let whole : FitsIn inner.1 (prefix ++ sized) = subst (λ (l : List ℕ). FitsIn inner.1 (prefix ++ (to_be_bytes w16 (length inner.0) ++ l))) (append-nil inner.0) after in
      subst (FitsIn inner.1) (append_assoc (contents ++ p) numbers sized ∙ append_assoc contents p (numbers ++ sized)) whole

  pub push_fits : (push : Push) → IsPush push → FitsIn (push_writes push contents places).1 (contents ++ (push_writes push contents places).0)
  push_fits (Ask labels qtype class) is = question_fits labels qtype class is.0
  push_fits (Add section r) is = record_fits r is.2

-- ---- one push

-- a draft that is read whole as these items, and whose places lead to names
record IsRead (draft : Draft) (items : List Item) : Type 0 where
  long : length draft.header ≡ 12
  whole : message_reading (drafted draft) ≡ Whole items (length draft.contents)
  fits : FitsIn draft.places draft.contents

push_small : (push : Push) → IsPush push → push_section push < 4
push_small (Ask labels qtype class) is = omega arith
push_small (Add section r) is = is.1

-- the items that were added, and that their records are these when both are lowercased
record Adds (items : List Item) (rs : List RecordValue) (after : Draft) : Type 0 where
  more : List Item
  read : IsRead after (items ++ more)
  alike : map lowercase_names (records_among more) ≡ map lowercase_names rs

module _ (draft : Draft) (items : List Item) (so : IsRead draft items) where
  one_more : (push : Push) → IsPush push → has_later (push_section push) draft.header ≡ false → count_in (push_section push) draft.header < 65535
      → (item : Item) × (map lowercase_names (records_among (item ∷ [])) ≡ map lowercase_names (push_records push)) × (message_reading (drafted (pushed (push_section push) (push_writes push) draft)) ≡ Whole (items ++ item ∷ []) (length (pushed (push_section push) (push_writes push) draft).contents))
  one_more (Ask labels qtype class) is none few =
      let again = pushed_question draft items so.long so.whole so.fits labels qtype class none few is.0 is.1 is.2 in
      (QuestionItem (record { name = again.0; qtype = qtype; class = class }), refl, again.2)
  one_more (Add section r) is none few =
      let again = pushed_record draft items so.long so.whole so.fits section r is.0 is.1 none few is.2 in
      (RecordItem again.0, ap (λ (s : RecordValue). s ∷ []) again.1, again.2)

  adds_one : (push : Push) → IsPush push → has_later (push_section push) draft.header ≡ false → count_in (push_section push) draft.header < 65535
      → Adds items (push_records push) (pushed (push_section push) (push_writes push) draft)
  adds_one push is none few =
      let one = one_more push is none few in
      record {
        more = one.0 ∷ [];
        read = record {
          long = header_long (push_section push) (count_in (push_section push) draft.header + 1) draft.header (push_small push is) so.long;
          whole = one.2;
          fits = push_fits draft.contents draft.places so.fits push is;
        };
        alike = one.1;
      }

  adds_push : (push : Push) → IsPush push → Adds items (cond (is_accepted push draft) (push_records push) []) (after_push push draft)
  adds_push push is = by (is_accepted push draft) refl where
    by : (b : Bool) → is_accepted push draft ≡ b → Adds items (cond b (push_records push) []) (cond b (pushed (push_section push) (push_writes push) draft) draft)
    by true e =
        let first : not (has_later (push_section push) draft.header) ≡ true = first_so _ _ e in
        let others = second_so _ _ e in
        let few : nat_lt (count_in (push_section push) draft.header) 65535 ≡ true = first_so _ _ others in
        adds_one push is (none (has_later (push_section push) draft.header) first) (ltb-true _ _ few) where
          none : (b : Bool) → not b ≡ true → b ≡ false
          none true e = absurd cc
          none false e = refl
    by false e = record { more = []; read = subst (IsRead draft) (sym (append-nil items)) so; alike = refl }

-- ---- all pushes

adds_all : (pushes : List Push) (draft : Draft) (items : List Item) → AllByRecursion IsPush pushes → IsRead draft items → Adds items (accepted_records pushes draft) (after_pushes pushes draft)
adds_all [] draft items are so = record { more = []; read = subst (IsRead draft) (sym (append-nil items)) so; alike = refl }
adds_all (push ∷ pushes) draft items are so =
    let first = adds_push draft items so push are.0 in
    let others = adds_all pushes (after_push push draft) (items ++ first.more) are.1 first.read in
    let found : List RecordValue = cond (is_accepted push draft) (push_records push) [] in
    let later : List RecordValue = accepted_records pushes (after_push push draft) in
    record {
      more = first.more ++ others.more;
      read = subst (IsRead (after_pushes pushes (after_push push draft))) (append_assoc items first.more others.more) others.read;
      alike =
          ap (map lowercase_names) (among_append first.more others.more)
          ∙ map-append lowercase_names (records_among first.more) (records_among others.more)
          ∙ ap₂ (λ (l m : List RecordValue). l ++ m) first.alike others.alike
          ∙ sym (map-append lowercase_names found later);
    }

module _ (pushes : List Push) (draft : Draft) (items : List Item) (are : AllByRecursion IsPush pushes) (long : length draft.header ≡ 12) (whole : message_reading (drafted draft) ≡ Whole items (length draft.contents)) (fits : FitsIn draft.places draft.contents) where
  all_added : Adds items (accepted_records pushes draft) (after_pushes pushes draft)
  all_added = adds_all pushes draft items are (record { long = long; whole = whole; fits = fits })

  pub pushes_read : (later : List Item) × (map lowercase_names (records_among later) ≡ map lowercase_names (accepted_records pushes draft)) × (message_reading (drafted (after_pushes pushes draft)) ≡ Whole (items ++ later) (length (after_pushes pushes draft).contents))
  pushes_read = (all_added.more, all_added.alike, all_added.read.whole)

  pub pushes_listed : (rs : List RecordValue) → Valid (drafted (after_pushes pushes draft)) rs → canonical_list rs ≡ canonical_list (records_among items ++ accepted_records pushes draft)
  pushes_listed rs valid =
      let last = length (after_pushes pushes draft).contents in
      let rs-is : rs ≡ records_among items ++ records_among all_added.more =
      valid_one (drafted (after_pushes pushes draft)) rs (records_among (items ++ all_added.more)) valid (items ++ all_added.more, last, all_added.read.whole, refl)
      ∙ among_append items all_added.more in
      canonical_list_of_lowercased rs (records_among items ++ accepted_records pushes draft)
      (ap (map lowercase_names) rs-is
      ∙ map-append lowercase_names (records_among items) (records_among all_added.more)
      ∙ ap (λ (l : List RecordValue). map lowercase_names (records_among items) ++ l) all_added.alike
      ∙ sym (map-append lowercase_names (records_among items) (accepted_records pushes draft)))
