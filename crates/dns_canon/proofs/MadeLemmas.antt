-- The message of `make`, record by record.
use Rattle.std.proofs.Common.{◌≡◌, ℕ, zero, suc, ◌+◌, ◌*◌, ◌<◌, ◌≤◌, List, [], ◌∷◌, ◌++◌, length, map, drop, refl, sym, ap, ◌∙◌, arith, add-zero, zero-add}
use Rattle.std.specs.Prelude.{codes, decimal, replicate, set, sum_by, nat_lt, slice_index, IsOk, Result, Ok, Err}
use Rattle.std.specs.Int.{w16, to_be_bytes}
use Rattle.std.specs.List.{concat, list_any, range_with_len}
use Rattle.std.proofs.lemmas.List.{length-append, map-append}
use Rattle.std.proofs.lemmas.List.Concat.{concat_is, length-flat_map}
use Rattle.dns_wire.specs.Compression.{FitsIn, CompressedWrite}
use Rattle.dns_wire.specs.Layout.{list_writes}
use Rattle.dns_wire.specs.LayoutLemmas.{list_writes-one, list_writes-append}
use Rattle.dns_message.specs.Building.{Draft, drafted, count_in, has_later, pushed, HasRoom, PushResults}
use Rattle.dns_message.specs.Built.{built}
use Rattle.dns_message.specs.Canonical.{lowercase_names}
use Rattle.dns_message.specs.Messages.{RecordValue, Valid, counts_of, records_among}
use Rattle.dns_message.specs.Messages.Item.{RecordItem}
use Rattle.dns_message.specs.Messages.Reading.{Whole}
use Rattle.dns_message.specs.Order.{canonical_list}
use Rattle.dns_message.specs.Pushes.Push.{Add}
use Rattle.dns_message.specs.declared.build_error.MessageBuildError.{MessageBuildError}
use Rattle.dns_message.specs.declared.build_error.MessageBuildError.TheVariants.{Misplaced, TooMany, Truncated}
use Rattle.dns_message.proofs.Accepted.{push_fits}
use Rattle.dns_message.proofs.OneReading.{valid_one}
use Rattle.dns_message.proofs.Pushed.{counts_with, header_long, new_whole, records_of_record}
use Rattle.dns_message.proofs.Repushed.{pushed_record}
use Rattle.dns_message.proofs.CanonicalListSameness.{canonical_list_of_lowercased}
use Rattle.dns_message.proofs.Shorter.{record_no_longer}
use Rattle.dns_canon.specs.Generated.{generated, generated_record, made, made_line}
use Rattle.dns_canon.specs.Making.{HasMade}
use Rattle.dns_canon.proofs.GeneratedRecords.{generated_well_formed, generated_short}

-- ---- the list of records

-- what a record after others leaves
abbrev trailing : List ℕ × List ℕ → RecordValue → List ℕ × List ℕ
trailing before r = (before.0 ++ (built r before.0 before.1).0, (built r before.0 before.1).1)

range_more : (first n : ℕ) → range_with_len first (suc n) ≡ range_with_len first n ++ (first + n) ∷ []
range_more first zero = ap (λ (k : ℕ). k ∷ []) (sym (add-zero first))
range_more first (suc n) =
    let place : first + 1 + n ≡ first + suc n = omega arith in
    ap (λ (l : List ℕ). first ∷ l) (range_more (first + 1) n) ∙ ap (λ (k : ℕ). first ∷ (range_with_len (first + 1) n ++ k ∷ [])) place

pub generated_more : (n : ℕ) → generated (suc n) ≡ generated n ++ generated_record n ∷ []
generated_more n =
    ap (map generated_record) (range_more 0 n ∙ ap (λ (k : ℕ). range_with_len 0 n ++ k ∷ []) (zero-add n))
    ∙ map-append generated_record (range_with_len 0 n) (n ∷ [])

-- one more is built after the others
built_more : (n : ℕ) → list_writes built (generated (suc n)) [] [] ≡ trailing (list_writes built (generated n) [] []) (generated_record n)
built_more n =
    let r = generated_record n in
    let before = list_writes built (generated n) [] [] in
    ap (λ (rs : List RecordValue). list_writes built rs [] []) (generated_more n)
    ∙ list_writes-append built (generated n) (r ∷ []) [] []
    ∙ ap (λ (one : List ℕ × List ℕ). (before.0 ++ one.0, one.1)) (list_writes-one built r before.0 before.1)

-- ---- room

-- that many records, one after another, have no more octets
built_short : (n : ℕ) → n ≤ 1000 → length (list_writes built (generated n) [] []).0 ≤ 65 * n
unfolding list_writes
built_short zero few = omega arith
built_short (suc n) few =
    let before = list_writes built (generated n) [] [] in
    let one = built (generated_record n) before.0 before.1 in
    omega (
      arith,
      few,
      built_short n (omega (arith, few)),
      ap (λ (r : List ℕ × List ℕ). length r.0) (built_more n),
      length-append before.0 one.0,
      record_no_longer (generated_record n) before.0 before.1,
      generated_short n (omega (arith, few)),
    )

pub has_room : (n : ℕ) (draft : Draft) (fits : List ℕ → List ℕ → Type 0) → n < 1000 → HasMade n draft → fits draft.contents draft.places → HasRoom fits (built (generated_record n)) draft
has_room n draft fits few made fit =
    let contents : length (list_writes built (generated n) [] []).0 ≡ length draft.contents = ap (λ (r : List ℕ × List ℕ). length r.0) made.octets in
    (fit, omega (arith, few, made.size, contents, built_short n (omega (arith, few)), record_no_longer (generated_record n) draft.contents draft.places, generated_short n few))

-- a push that finds room is accepted
pub accepted : {A : Type 0} (n : ℕ) (draft : Draft) (fits : List ℕ → List ℕ → Type 0) (writes : CompressedWrite) (result : Result A MessageBuildError) → n < 1000 → HasMade n draft → HasRoom fits writes draft
    → PushResults 1 fits writes draft result → IsOk result
accepted n draft fits writes (Ok done) few made room answers = refl
accepted n draft fits writes (Err Misplaced) few made room answers = let w = sym made.last ∙ answers in absurd cc
accepted n draft fits writes (Err TooMany) few made room answers = absurd (omega (arith, few, made.counted, answers.1))
accepted n draft fits writes (Err Truncated) few made room answers = absurd (answers.2 room)

-- ---- one record more

counted_more : (n : ℕ) (draft : Draft) → n < 1000 → HasMade n draft → counts_of (pushed 1 (built (generated_record n)) draft).header ≡ set (counts_of draft.header) 1 (suc n)
counted_more n draft few made =
    let count : count_in 1 draft.header + 1 ≡ suc n = omega (arith, made.counted) in
    counts_with 1 (count_in 1 draft.header + 1) draft.header (omega arith) (omega (arith, few, made.counted)) (omega (arith, made.header))
    ∙ ap (set (counts_of draft.header) 1) count

pub one_more_made : (n : ℕ) (draft : Draft) → n < 1000 → HasMade n draft → HasMade (suc n) (pushed 1 (built (generated_record n)) draft)
one_more_made n draft few made =
    let r = generated_record n in
    let after = pushed 1 (built r) draft in
    let well = generated_well_formed n few in
    let few_counted : count_in 1 draft.header < 65535 = omega (arith, few, made.counted) in
    let read = pushed_record draft made.items made.header made.read made.known 1 r (omega arith) (omega arith) made.last few_counted well in
    let counts = counted_more n draft few made in
    record {
      header = header_long 1 (count_in 1 draft.header + 1) draft.header (omega arith) made.header;
      last = ap (λ (counts : List ℕ). list_any (λ count. nat_lt 0 count) (drop 2 counts)) counts ∙ made.last;
      counted = ap (λ (counts : List ℕ). slice_index counts 1) counts;
      size = made.size;
      octets = built_more n ∙ ap (λ (o : List ℕ × List ℕ). trailing o r) made.octets;
      known = push_fits draft.contents draft.places made.known (Add 1 r) (omega arith, omega arith, well);
      items = made.items ++ RecordItem read.0 ∷ [];
      read = read.2;
      alike = ap (map lowercase_names) (records_of_record made.items read.0)
          ∙ map-append lowercase_names (records_among made.items) (read.0 ∷ [])
          ∙ ap (λ (rs : List RecordValue). rs ++ lowercase_names read.0 ∷ []) made.alike
          ∙ ap (λ (last : RecordValue). map lowercase_names (generated n) ++ last ∷ []) read.1
          ∙ sym (map-append lowercase_names (generated n) (r ∷ []))
          ∙ ap (map lowercase_names) (sym (generated_more n));
    }

-- ---- a message without records

nothing_known : FitsIn [] []
nothing_known = record { places_are = record { rising = λ k within. absurd (omega (arith, within)); few = omega arith; low = tt }; runs = tt }

pub none_made : (draft : Draft) (id flags : ℕ) → draft.header ≡ to_be_bytes w16 id ++ to_be_bytes w16 flags ++ replicate 8 0 → draft.contents ≡ [] → draft.size ≡ 65535 → draft.places ≡ [] → HasMade 0 draft
unfolding list_writes
none_made draft id flags header contents size places = record {
  header = ap length header;
  last = ap (has_later 1) header;
  counted = ap (count_in 1) header;
  size = size;
  octets = λ k. (sym contents k, sym places k);
  known = rw (contents, places) nothing_known;
  items = [];
  read = new_whole draft id flags header contents ∙ ap (λ (o : List ℕ). Whole [] (length o)) (sym contents);
  alike = refl;
}

-- ---- the whole message

-- it has the canonical list of the records, and their built octets after the header
pub all_made : (n : ℕ) (draft : Draft) (rs : List RecordValue) → HasMade n draft → Valid (drafted draft) rs → (canonical_list rs ≡ canonical_list (generated n)) × (length (drafted draft) ≡ 12 + length (made n))
all_made n draft rs is valid =
    let one : rs ≡ records_among is.items = valid_one (drafted draft) rs (records_among is.items) valid (is.items, length draft.contents, is.read, refl) in
    let octets : made n ≡ draft.contents = ap (λ (o : List ℕ × List ℕ). o.0) is.octets in
    (ap canonical_list one ∙ canonical_list_of_lowercased (records_among is.items) (generated n) is.alike, omega (arith, is.header, length-append draft.header draft.contents, ap length octets))

pub valid_made : (n : ℕ) (draft : Draft) → HasMade n draft → (rs : List RecordValue) × Valid (drafted draft) rs
valid_made n draft is = (records_among is.items, (is.items, length draft.contents, is.read, refl))

-- ---- the octets of the canonical list

pub concat_long : (lists : List (List ℕ)) → length (concat lists) ≡ sum_by length lists
concat_long lists = ap length (concat_is lists) ∙ length-flat_map (λ x. x) lists

-- ---- the line

pub printed_so : (n records octets size : ℕ) → records ≡ length (canonical_list (generated n)) → octets ≡ sum_by length (canonical_list (generated n)) → size ≡ 12 + length (made n)
    → codes "records " ++ (decimal records ++ (codes " octets " ++ (decimal octets ++ (codes " message " ++ (decimal size ++ 10 ∷ []))))) ≡ made_line n
printed_so n records octets size r o s = λ k. codes "records " ++ (decimal (r k) ++ (codes " octets " ++ (decimal (o k) ++ (codes " message " ++ (decimal (s k) ++ 10 ∷ [])))))
