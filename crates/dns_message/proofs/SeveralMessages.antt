-- Several messages, one after another: which is the first that is refused, and their records.
use Rattle.std.proofs.Common.{◌≡◌, ℕ, ◌+◌, ◌<◌, List, [], ◌∷◌, ◌++◌, length, map, flat_map, Option, Some, None, refl, sym, ap, subst, ◌∙◌, arith, inl, inr}
use Rattle.std.specs.Prelude.{◌↔◌}
use Rattle.std.proofs.lemmas.List.Concat.{flat_map-append, flat_map-cons}
use Rattle.dns_record.specs.FurtherFormats.{DataReading}
use Rattle.dns_message.specs.Messages.{Reading, RecordValue, ValidBy, message_by, records_among}
use Rattle.dns_message.specs.Messages.Reading.{Short as TooShort, Stopped, Whole}
use Rattle.dns_message.specs.Refusals.{RefusedBy, first_refused}
use Rattle.dns_message.specs.Several.{AreValidBy, IsFirstRefusedBy, all_records_by, records_read}
use Rattle.dns_message.specs.declared.canon_error.CanonError.{CanonError}
use Rattle.dns_message.specs.declared.canon_error.CanonError.TheVariants.{Short, Item, Memory}
use Rattle.dns_message.proofs.OneReading.{three_kinds_by}
use Rattle.dns_message.proofs.Phrased.{short_reading_by}

module _ (reads : DataReading) where
  -- ---- valid messages

  -- after valid messages the first that is refused is one of the others
  pub valid_before : (before after : List (List ℕ)) (rss : List (List RecordValue)) (number : ℕ) → AreValidBy reads before rss
      → first_refused number (map (message_by reads) (before ++ after)) ≡ first_refused (number + length before) (map (message_by reads) after)
  valid_before [] after [] number valid = ap (λ (n : ℕ). first_refused n (map (message_by reads) after)) (omega arith)
  valid_before [] after (rs ∷ rss) number valid = absurd valid
  valid_before (m ∷ before) after [] number valid = absurd valid
  valid_before (m ∷ before) after (rs ∷ rss) number ((items, end, is, rs-is), later) =
      ap (λ (r : Reading). first_refused number (r ∷ map (message_by reads) (before ++ after))) is
      ∙ valid_before before after rss (number + 1) later
      ∙ ap (λ (n : ℕ). first_refused n (map (message_by reads) after)) (omega arith)

  pub valid_none : (messages : List (List ℕ)) (rss : List (List RecordValue)) (number : ℕ) → AreValidBy reads messages rss → first_refused number (map (message_by reads) messages) ≡ None
  valid_none [] [] number valid = refl
  valid_none [] (rs ∷ rss) number valid = absurd valid
  valid_none (m ∷ messages) [] number valid = absurd valid
  valid_none (m ∷ messages) (rs ∷ rss) number ((items, end, is, rs-is), later) =
      ap (λ (r : Reading). first_refused number (r ∷ map (message_by reads) messages)) is ∙ valid_none messages rss (number + 1) later

  pub read_one : (m : List ℕ) (rs : List RecordValue) → ValidBy reads m rs → records_read (message_by reads m) ≡ rs
  read_one m rs (items, end, is, rs-is) = ap records_read is ∙ sym rs-is

  pub valid_records : (messages : List (List ℕ)) (rss : List (List RecordValue)) → AreValidBy reads messages rss → all_records_by reads messages ≡ flat_map (λ rs. rs) rss
  valid_records [] [] valid = refl
  valid_records [] (rs ∷ rss) valid = absurd valid
  valid_records (m ∷ messages) [] valid = absurd valid
  valid_records (m ∷ messages) (rs ∷ rss) (valid, later) = λ i. read_one m rs valid i ++ valid_records messages rss later i

  -- if none is refused, all are valid
  pub none_valid : (messages : List (List ℕ)) (number : ℕ) → first_refused number (map (message_by reads) messages) ≡ None → (rss : List (List RecordValue)) × AreValidBy reads messages rss
  none_valid [] number e = ([], tt)
  none_valid (m ∷ messages) number e = by (message_by reads m) refl e (none_valid messages (number + 1)) where
    by : (reading : Reading) → message_by reads m ≡ reading → first_refused number (reading ∷ map (message_by reads) messages) ≡ None
        → (first_refused (number + 1) (map (message_by reads) messages) ≡ None → (rss : List (List RecordValue)) × AreValidBy reads messages rss) → (rss : List (List RecordValue)) × AreValidBy reads (m ∷ messages) rss
    by TooShort is e more = absurd cc
    by (Stopped items section index place) is e more = absurd cc
    by (Whole items end) is e more = let later = more e in (records_among items ∷ later.0, ((items, end, is, refl), later.1))

  -- one more valid message
  pub valid_more : (messages : List (List ℕ)) (rss : List (List RecordValue)) (m : List ℕ) (rs : List RecordValue) → AreValidBy reads messages rss → ValidBy reads m rs → AreValidBy reads (messages ++ m ∷ []) (rss ++ rs ∷ [])
  valid_more [] [] m rs valid one = (one, tt)
  valid_more [] (ss ∷ rss) m rs valid one = absurd valid
  valid_more (n ∷ messages) [] m rs valid one = absurd valid
  valid_more (n ∷ messages) (ss ∷ rss) m rs (first, later) one = (first, valid_more messages rss m rs later one)

  pub records_more : (messages : List (List ℕ)) (m : List ℕ) (rs : List RecordValue) → ValidBy reads m rs → all_records_by reads (messages ++ m ∷ []) ≡ all_records_by reads messages ++ rs
  records_more messages m rs valid =
      flat_map-append (λ n. records_read (message_by reads n)) messages (m ∷ [])
      ∙ ap (λ (l : List RecordValue). all_records_by reads messages ++ l) (flat_map-cons (λ n. records_read (message_by reads n)) m [] ∙ append_nil (records_read (message_by reads m)) ∙ read_one m rs valid)
    where
      append_nil : (rs : List RecordValue) → rs ++ [] ≡ rs
      append_nil [] = refl
      append_nil (r ∷ rs) = ap (λ (l : List RecordValue). r ∷ l) (append_nil rs)

  -- ---- the first that is refused

  pub refused_reading : (m : List ℕ) (later : List Reading) (error : CanonError) (number : ℕ) → RefusedBy reads m error → first_refused number (message_by reads m ∷ later) ≡ Some (number, error)
  refused_reading m later Short number few = ap (λ (r : Reading). first_refused number (r ∷ later)) (short_reading_by reads m few)
  refused_reading m later (Item section index) number (place, (items, is)) = ap (λ (r : Reading). first_refused number (r ∷ later)) is
  refused_reading m later Memory number none = absurd none

  -- a message that is read as too short is
  short_from_reading : (m : List ℕ) → message_by reads m ≡ TooShort → length m < 12
  short_from_reading m is = elim (three_kinds_by reads m) [
    | inl few ↦ few
    | inr (inl (rs, (items, end, whole, rs-is))) ↦ (let clash = sym is ∙ whole in absurd cc)
    | inr (inr (s, i, (p, (items, stops)))) ↦ (let clash = sym is ∙ stops in absurd cc)
  ]

  -- the same, where messages count from a number
  record FirstFrom (start : ℕ) (messages : List (List ℕ)) (number : ℕ) (error : CanonError) : Type 0 where
    before : List (List ℕ)
    message : List ℕ
    after : List (List ℕ)
    occurs : messages ≡ before ++ message ∷ after
    place : start + length before ≡ number
    records : List (List RecordValue)
    valid : AreValidBy reads before records
    refused : RefusedBy reads message error

  -- one refusal is another in its parts
  abbrev number_in : Option (ℕ × CanonError) → ℕ
  number_in None = 0
  number_in (Some p) = p.0

  abbrev error_in : Option (ℕ × CanonError) → CanonError
  error_in None = Memory
  error_in (Some p) = p.1

  first_from : (messages : List (List ℕ)) (start number : ℕ) (error : CanonError) → first_refused start (map (message_by reads) messages) ≡ Some (number, error) → FirstFrom start messages number error
  first_from [] start number error e = absurd cc
  first_from (m ∷ messages) start number error e = by (message_by reads m) refl e (first_from messages (start + 1) number error) where
    by : (reading : Reading) → message_by reads m ≡ reading → first_refused start (reading ∷ map (message_by reads) messages) ≡ Some (number, error)
        → (first_refused (start + 1) (map (message_by reads) messages) ≡ Some (number, error) → FirstFrom (start + 1) messages number error) → FirstFrom start (m ∷ messages) number error
    by TooShort is e more =
        let n-is : start ≡ number = ap number_in e in
        let error-is : Short ≡ error = ap error_in e in
        record { before = []; message = m; after = messages; occurs = refl; place = omega (arith, n-is); records = []; valid = tt; refused = subst (RefusedBy reads m) error-is (short_from_reading m is) }
    by (Stopped items section index place) is e more =
        let n-is : start ≡ number = ap number_in e in
        let error-is : Item section index ≡ error = ap error_in e in
        record { before = []; message = m; after = messages; occurs = refl; place = omega (arith, n-is); records = []; valid = tt; refused = subst (RefusedBy reads m) error-is (place, (items, is)) }
    by (Whole items end) is e more =
        let later = more e in
        record {
          before = m ∷ later.before;
          message = later.message;
          after = later.after;
          occurs = ap (λ (l : List (List ℕ)). m ∷ l) later.occurs;
          place = omega (arith, later.place);
          records = records_among items ∷ later.records;
          valid = ((items, end, is, refl), later.valid);
          refused = later.refused;
        }

  -- a message is the first that is refused exactly if it is refused so and all before it are valid
  pub first_words : (messages : List (List ℕ)) (number : ℕ) (error : CanonError) → (first_refused 0 (map (message_by reads) messages) ≡ Some (number, error)) ↔ IsFirstRefusedBy reads messages number error
  first_words messages number error = (
    λ e. (let first = first_from messages 0 number error e in record {
      before = first.before;
      message = first.message;
      after = first.after;
      occurs = first.occurs;
      place = omega (arith, first.place);
      records = first.records;
      valid = first.valid;
      refused = first.refused;
    }),
    λ first.
        ap (λ (l : List (List ℕ)). first_refused 0 (map (message_by reads) l)) first.occurs
        ∙ valid_before first.before (first.message ∷ first.after) first.records 0 first.valid
        ∙ refused_reading first.message (map (message_by reads) first.after) error (0 + length first.before) first.refused
        ∙ ap (λ (n : ℕ). Some (n, error)) (omega (arith, first.place)),
  )
