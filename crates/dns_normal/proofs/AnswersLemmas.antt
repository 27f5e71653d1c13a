-- Records that are built as answers, one after another.
use Rattle.std.proofs.Common.{min, ◌≡◌, ℕ, ◌+◌, ◌*◌, ◌/◌, ◌%◌, ◌<◌, ◌≤◌, inl, inr, true, false, List, [], ◌∷◌, ◌++◌, length, map, refl, sym, ap, subst, ◌∙◌, arith}
use Rattle.std.specs.Prelude.{replicate, Result, Ok, Err, OnOk, is_err}
use Rattle.std.specs.Int.{w16, to_be_bytes}
use Rattle.std.specs.List.{concat}
use Rattle.std.proofs.lemmas.Bool.{cases_lt}
use Rattle.std.proofs.lemmas.List.{length-append, map-append}
use Rattle.dns_wire.specs.Compression.{CompressedWrite, FitsIn, compressed_name_writes}
use Rattle.dns_wire.specs.Layout.{laid, list_writes}
use Rattle.dns_wire.specs.LayoutLemmas.{list_writes-one, list_writes-append}
use Rattle.dns_num.specs.InMessage.{zeros}
use Rattle.dns_record.specs.InMessage.{fixed_header}
use Rattle.dns_message.specs.Building.{Draft, drafted, count_in, has_later, with_count, pushed, PushResults}
use Rattle.dns_message.specs.Built.{built, field_part}
use Rattle.dns_message.specs.Canonical.{canonical_wire, lowercase_names}
use Rattle.dns_message.specs.Messages.{RecordValue, records_among}
use Rattle.dns_message.specs.Messages.Item.{RecordItem}
use Rattle.dns_message.specs.Messages.Reading.{Whole}
use Rattle.dns_message.specs.Pushes.Push.{Add}
use Rattle.dns_message.specs.WellFormed.{WellFormed}
use Rattle.dns_message.specs.declared.build_error.MessageBuildError.{MessageBuildError}
use Rattle.dns_message.specs.declared.build_error.MessageBuildError.TheVariants.{Misplaced, TooMany, Truncated}
use Rattle.dns_message.proofs.Accepted.{push_fits}
use Rattle.dns_message.proofs.Pushed.{new_whole, records_of_record}
use Rattle.dns_message.proofs.Repushed.{pushed_record}
use Rattle.dns_message.proofs.Shorter.{record_no_longer}
use Rattle.dns_normal.specs.Answers.{HasAnswers, HasAnswersIfFew}
use Rattle.dns_normal.specs.Normal.{answers_header, answers_message}

-- ---- octets

-- what a record after others leaves
abbrev trailing : List ℕ × List ℕ → RecordValue → List ℕ × List ℕ
trailing before r = (before.0 ++ (built r before.0 before.1).0, (built r before.0 before.1).1)

built_more : (rs : List RecordValue) (r : RecordValue) → list_writes built (rs ++ r ∷ []) [] [] ≡ trailing (list_writes built rs [] []) r
built_more rs r =
    let before = list_writes built rs [] [] in
    list_writes-append built rs (r ∷ []) [] [] ∙ ap (λ (one : List ℕ × List ℕ). (before.0 ++ one.0, one.1)) (list_writes-one built r before.0 before.1)

-- a record has ten octets at least after its owner
record_some : (r : RecordValue) (contents places : List ℕ) → 10 ≤ length (built r contents places).0
record_some r contents places =
    let owner = compressed_name_writes r.owner contents places in
    let numbers = fixed_header r.rtype r.class r.ttl in
    let at = ((contents ++ owner.0) ++ numbers) ++ zeros w16 in
    let content = (laid (map field_part r.content) at owner.1).0 in
    let size = to_be_bytes w16 (length content) in
    omega (arith, length-append owner.0 (numbers ++ (size ++ content)), length-append numbers (size ++ content), length-append size content)

pub message_long : (rs : List RecordValue) → length (answers_message rs) ≡ 12 + length (list_writes built rs [] []).0
message_long rs = length-append (answers_header (length rs)) (list_writes built rs [] []).0

-- with one record more
pub message_more : (rs : List RecordValue) (r : RecordValue) (contents places : List ℕ) → list_writes built rs [] [] ≡ (contents, places)
    → length (answers_message (rs ++ r ∷ [])) ≡ 12 + (length contents + length (built r contents places).0)
message_more rs r contents places e =
    omega (
      arith,
      message_long (rs ++ r ∷ []),
      ap (λ (o : List ℕ × List ℕ). length o.0) (built_more rs r ∙ ap (λ (o : List ℕ × List ℕ). trailing o r) e),
      length-append contents (built r contents places).0,
    )

-- with more records it is no shorter
pub message_grows : (rs more : List RecordValue) → length (answers_message rs) ≤ length (answers_message (rs ++ more))
message_grows rs more =
    let before = list_writes built rs [] [] in
    omega (
      arith,
      message_long rs,
      message_long (rs ++ more),
      ap (λ (o : List ℕ × List ℕ). length o.0) (list_writes-append built rs more [] []),
      length-append before.0 (list_writes built more before.0 before.1).0,
    )

-- ---- headers

header_counts : (n : ℕ) (header : List ℕ) → header ≡ answers_header n → n < 65536 → count_in 1 header ≡ n
header_counts n header e few =
    let whole : n / 256 % 256 * 256 + n % 256 ≡ n = omega (arith, few) in
    ap (count_in 1) e ∙ whole

header_more : (n : ℕ) (header : List ℕ) → header ≡ answers_header n → n < 65535 → with_count 1 (count_in 1 header + 1) header ≡ answers_header (n + 1)
header_more n header e few =
    ap (λ (h : List ℕ). with_count 1 (count_in 1 h + 1) h) e
    ∙ ap (λ (k : ℕ). with_count 1 (k + 1) (answers_header n)) (header_counts n (answers_header n) refl (omega (arith, few)))

-- ---- one record more

pub one_more : (most : ℕ) (rs : List RecordValue) (r : RecordValue) (draft : Draft) → HasAnswers most rs draft → WellFormed r
    → 12 + length draft.contents + length (built r draft.contents draft.places).0 ≤ most → HasAnswers most (rs ++ r ∷ []) (pushed 1 (built r) draft)
one_more most rs r draft has well room =
    let n = length rs in
    let few : n < 65535 = omega (arith, has.limit, has.room, has.few) in
    let count = header_counts n draft.header has.header (omega (arith, few)) in
    let read = pushed_record draft has.items (ap length has.header) has.read has.known 1 r (omega arith) (omega arith) (ap (has_later 1) has.header) (omega (arith, count, few)) well in
    let one = (built r draft.contents draft.places).0 in
    record {
      header = header_more n draft.header has.header few ∙ ap answers_header (sym (length-append rs (r ∷ [])));
      size = has.size;
      limit = has.limit;
      room = omega (arith, room, length-append draft.contents one);
      few = omega (arith, has.few, record_some r draft.contents draft.places, length-append draft.contents one, length-append rs (r ∷ []));
      octets = built_more rs r ∙ ap (λ (o : List ℕ × List ℕ). trailing o r) has.octets;
      known = push_fits draft.contents draft.places has.known (Add 1 r) (omega arith, omega arith, well);
      items = has.items ++ RecordItem read.0 ∷ [];
      read = read.2;
      alike = ap (map lowercase_names) (records_of_record has.items read.0)
          ∙ map-append lowercase_names (records_among has.items) (read.0 ∷ [])
          ∙ ap (λ (rs : List RecordValue). rs ++ lowercase_names read.0 ∷ []) has.alike
          ∙ ap (λ (last : RecordValue). map lowercase_names rs ++ last ∷ []) read.1
          ∙ sym (map-append lowercase_names rs (r ∷ []));
    }

-- what a push of a record leaves
pub pushed_more : {A : Type 0} (most : ℕ) (rs : List RecordValue) (r : RecordValue) (draft after : Draft) (fits : List ℕ → List ℕ → Type 0) (writes : CompressedWrite) (result : Result A MessageBuildError)
    → HasAnswers most rs draft → WellFormed r → writes ≡ built r → fits draft.contents draft.places → PushResults 1 fits writes draft result → OnOk result (after ≡ pushed 1 writes draft) → HasAnswersIfFew most (rs ++ r ∷ []) after result
pushed_more most rs r draft after fits writes (Ok done) has well is fit answers pushes =
    let octets = ap (λ (w : CompressedWrite). length (w draft.contents draft.places).0) is in
    subst (HasAnswers most (rs ++ r ∷ [])) (sym (pushes ∙ ap (λ (w : CompressedWrite). pushed 1 w draft) is)) (one_more most rs r draft has well (omega (arith, answers.2.1, has.size, octets)))
pushed_more most rs r draft after fits writes (Err Misplaced) has well is fit answers pushes =
    let last : has_later 1 draft.header ≡ false = ap (has_later 1) has.header in
    let clash = sym last ∙ answers in absurd cc
pushed_more most rs r draft after fits writes (Err TooMany) has well is fit answers pushes =
    let few : length rs < 65535 = omega (arith, has.limit, has.room, has.few) in
    absurd (omega (arith, few, answers.1, header_counts (length rs) draft.header has.header (omega (arith, few))))
pushed_more most rs r draft after fits writes (Err Truncated) has well is fit answers pushes =
    let octets = ap (λ (w : CompressedWrite). length (w draft.contents draft.places).0) is in
    elim (cases_lt most (12 + length draft.contents + length (writes draft.contents draft.places).0)) [
      | inl long ↦ omega (arith, long, octets, message_more rs r draft.contents draft.places has.octets)
      | inr short ↦ absurd (answers.2 (fit, omega (arith, short, has.size)))
    ]

-- ---- a message without records

nothing_known : FitsIn [] []
nothing_known = record { places_are = record { rising = λ k within. absurd (omega (arith, within)); few = omega arith; low = tt }; runs = tt }

pub no_answers : (most : ℕ) (draft : Draft) (id flags : ℕ) → 12 ≤ most → most ≤ 65535 → id ≡ 0 → flags ≡ 0 → draft.header ≡ to_be_bytes w16 id ++ to_be_bytes w16 flags ++ replicate 8 0 → draft.contents ≡ [] → draft.size ≡ most → draft.places ≡ []
    → HasAnswers most [] draft
unfolding list_writes
no_answers most draft id flags least limit none no_flags header contents size places = record {
  header = header ∙ (λ k. to_be_bytes w16 (none k) ++ to_be_bytes w16 (no_flags k) ++ replicate 8 0);
  size = size;
  limit = limit;
  room = omega (arith, least, ap length contents);
  few = omega arith;
  octets = λ k. (sym contents k, sym places k);
  known = rw (contents, places) nothing_known;
  items = [];
  read = new_whole draft id flags header contents ∙ ap (λ (o : List ℕ). Whole [] (length o)) (sym contents);
  alike = refl;
}

-- ---- the whole message

pub message_is : (most : ℕ) (rs : List RecordValue) (draft : Draft) → HasAnswers most rs draft → drafted draft ≡ answers_message rs
message_is most rs draft has = λ k. has.header k ++ sym (ap (λ (o : List ℕ × List ℕ). o.0) has.octets) k

pub message_short : (most : ℕ) (rs : List RecordValue) (draft : Draft) → HasAnswers most rs draft → length (answers_message rs) ≤ most
message_short most rs draft has = omega (arith, has.room, message_long rs, ap (λ (o : List ℕ × List ℕ). length o.0) has.octets)

-- whether records are the answers, by the test of what was answered
pub if_refused : {A E : Type 0} (most : ℕ) (rs : List RecordValue) (draft : Draft) (result : Result A E) → is_err result ≡ true → HasAnswersIfFew most rs draft result → most < length (answers_message rs)
if_refused most rs draft (Ok done) e has = absurd cc
if_refused most rs draft (Err error) e over = over

pub if_accepted : {A E : Type 0} (most : ℕ) (rs : List RecordValue) (draft : Draft) (result : Result A E) → is_err result ≡ false → HasAnswersIfFew most rs draft result → HasAnswers most rs draft
if_accepted most rs draft (Ok done) e has = has
if_accepted most rs draft (Err error) e over = absurd cc

-- ---- the room that is enough

writes_within : (rs : List RecordValue) (contents places : List ℕ) → length (list_writes built (map lowercase_names rs) contents places).0 ≤ length (concat (map canonical_wire rs))
unfolding list_writes
writes_within [] contents places = omega arith
writes_within (r ∷ rs) contents places =
    let first = built (lowercase_names r) contents places in
    let others = list_writes built (map lowercase_names rs) (contents ++ first.0) first.1 in
    omega (arith, record_no_longer (lowercase_names r) contents places, writes_within rs (contents ++ first.0) first.1, length-append first.0 others.0, length-append (canonical_wire r) (concat (map canonical_wire rs)))

-- the message is no longer than a header and all canonical octets
pub message_within : (rs : List RecordValue) → length (answers_message (map lowercase_names rs)) ≤ 12 + length (concat (map canonical_wire rs))
message_within rs = omega (arith, message_long (map lowercase_names rs), writes_within rs [] [])

module _ (most : ℕ) (lists : List (List ℕ)) (room : most ≡ min 65535 (12 + length (concat lists))) where
  pub room_least : 12 ≤ most
  room_least = omega (arith, room)

  pub room_limit : most ≤ 65535
  room_limit = omega (arith, room)

  -- a message that is too long for the room is too long for any message
  pub room_enough : (rs : List RecordValue) → map canonical_wire rs ≡ lists → most < length (answers_message (map lowercase_names rs)) → 65535 < length (answers_message (map lowercase_names rs))
  room_enough rs are over = omega (arith, room, over, message_within rs, ap (λ (l : List (List ℕ)). length (concat l)) are)
