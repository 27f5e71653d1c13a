-- What a push leaves: one more item is counted, and the message is read as before, with that item at its end.
use Rattle.std.proofs.Common.{◌≡◌, ◌<◌, ◌≤◌, ◌+◌, ◌*◌, ◌/◌, ◌%◌, ℕ, zero, suc, Bool, true, false, List, [], ◌∷◌, ◌++◌, length, get_or, take, drop, Some, refl, sym, ap, subst, ◌∙◌, arith, append_assoc, length-take-le, add-zero, zero-add, add-one}
use Rattle.std.specs.Prelude.{nat_lt, replicate, set, ◌||◌}
use Rattle.std.specs.List.{list_any}
use Rattle.std.specs.Int.{w16, to_be_bytes}
use Rattle.std.proofs.lemmas.Bool.{ltb-false}
use Rattle.std.proofs.lemmas.List.{append-nil, length-append, length-drop, drop_at, take-append-le, take-take}
use Rattle.dns_wire.specs.Compression.{CompressedWrite}
use Rattle.dns_wire.specs.Reading.{AreOctets}
use Rattle.dns_message.specs.Building.{Draft, drafted, count_in, has_later, with_count, pushed}
use Rattle.dns_message.specs.Messages.{Item, Question, RecordValue, item_at, slots, slots_from, counts_of, counted_slots, message_reading, records_among, reading_by, message_by}
use Rattle.dns_message.specs.Messages.Item.{QuestionItem, RecordItem}
use Rattle.dns_message.specs.Messages.Reading.{Whole}
use Rattle.dns_message.specs.Worded.{ItemsAt}
use Rattle.dns_message.proofs.Drafts.{counts_in_prefix}
use Rattle.dns_message.proofs.Extended.{items_more}
use Rattle.dns_message.proofs.Octets.{octets_of_both, octets_up_to, octets_from, number_octets_2}
use Rattle.dns_message.proofs.Phrased.{whole_read, read_whole}
use Rattle.dns_message.proofs.SlotLemmas.{slots_more, items_append, among_append}
use Rattle.dns_message.proofs.ItemLemmas.{item_is}

-- ---- the counts of a header with another count

-- a number in two octets
two_octets : (n : ℕ) → n < 65536 → n / 256 % 256 * 256 + n % 256 ≡ n
two_octets n fits = omega arith

counts_set : (a b c d e f g h i j k l : ℕ) (others : List ℕ) (section n : ℕ) → section < 4 → n < 65536
    → counts_of (with_count section n (a ∷ b ∷ c ∷ d ∷ e ∷ f ∷ g ∷ h ∷ i ∷ j ∷ k ∷ l ∷ others)) ≡ set (counts_of (a ∷ b ∷ c ∷ d ∷ e ∷ f ∷ g ∷ h ∷ i ∷ j ∷ k ∷ l ∷ others)) section n
counts_set a b c d e f g h i j k l others zero n below fits =
    ap (λ (x : ℕ). x ∷ (g * 256 + h) ∷ (i * 256 + j) ∷ (k * 256 + l) ∷ []) (two_octets n fits)
counts_set a b c d e f g h i j k l others (suc zero) n below fits =
    ap (λ (x : ℕ). (e * 256 + f) ∷ x ∷ (i * 256 + j) ∷ (k * 256 + l) ∷ []) (two_octets n fits)
counts_set a b c d e f g h i j k l others (suc (suc zero)) n below fits =
    ap (λ (x : ℕ). (e * 256 + f) ∷ (g * 256 + h) ∷ x ∷ (k * 256 + l) ∷ []) (two_octets n fits)
counts_set a b c d e f g h i j k l others (suc (suc (suc zero))) n below fits =
    ap (λ (x : ℕ). (e * 256 + f) ∷ (g * 256 + h) ∷ (i * 256 + j) ∷ x ∷ []) (two_octets n fits)
counts_set a b c d e f g h i j k l others (suc (suc (suc (suc section)))) n below fits = absurd (omega arith)

-- octets one by one
abbrev firsts : ℕ → List ℕ → List ℕ
firsts zero octets = []
firsts (suc n) octets = get_or octets 0 0 ∷ firsts n (drop 1 octets)

firsts_are : (n : ℕ) (octets : List ℕ) → n ≤ length octets → firsts n octets ++ drop n octets ≡ octets
firsts_are zero octets long = refl
firsts_are (suc n) [] long = absurd (omega (arith, long))
firsts_are (suc n) (b ∷ octets) long = ap (λ (l : List ℕ). b ∷ l) (firsts_are n octets (omega (arith, long)))

pub counts_with : (section n : ℕ) (header : List ℕ) → section < 4 → n < 65536 → 12 ≤ length header → counts_of (with_count section n header) ≡ set (counts_of header) section n
counts_with section n header below fits long =
    subst (λ (l : List ℕ). counts_of (with_count section n l) ≡ set (counts_of l) section n) (firsts_are 12 header long)
    (counts_set _ _ _ _ _ _ _ _ _ _ _ _ (drop 12 header) section n below fits)

pub header_long : (section n : ℕ) (header : List ℕ) → section < 4 → length header ≡ 12 → length (with_count section n header) ≡ 12
header_long section n header below twelve =
    let prefix = take (4 + 2 * section) header in
    let back = drop (6 + 2 * section) header in
    let parts : length (with_count section n header) ≡ length (prefix ++ to_be_bytes w16 n) + length back = length-append (prefix ++ to_be_bytes w16 n) back in
    let two : length (prefix ++ to_be_bytes w16 n) ≡ length prefix + 2 = length-append prefix (to_be_bytes w16 n) in
    omega (arith, below, twelve, parts, two, length-take-le (4 + 2 * section) header (omega (arith, below, twelve)), length-drop (6 + 2 * section) header)

pub header_octets : (section n : ℕ) (header : List ℕ) → AreOctets header → AreOctets (with_count section n header)
header_octets section n header are =
    octets_of_both (take (4 + 2 * section) header ++ to_be_bytes w16 n) (drop (6 + 2 * section) header)
    (octets_of_both (take (4 + 2 * section) header) (to_be_bytes w16 n) (octets_up_to (4 + 2 * section) header are) (number_octets_2 n))
    (octets_from (6 + 2 * section) header are)

-- id and flags stay
pub header_prefix : (section n : ℕ) (header : List ℕ) → section < 4 → length header ≡ 12 → take 4 (with_count section n header) ≡ take 4 header
header_prefix section n header below twelve =
    let prefix = take (4 + 2 * section) header in
    let back = drop (6 + 2 * section) header in
    let long : length prefix ≡ 4 + 2 * section = length-take-le (4 + 2 * section) header (omega (arith, below, twelve)) in
    ap (take 4) (append_assoc prefix (to_be_bytes w16 n) back)
    ∙ take-append-le 4 prefix (to_be_bytes w16 n ++ back) (omega (arith, long))
    ∙ take-take 4 (4 + 2 * section) header (omega arith)

-- ---- the counted items

none_counted : (first : ℕ) (counts : List ℕ) → list_any (λ count. nat_lt 0 count) counts ≡ false → slots_from first counts ≡ []
unfolding slots slots_from
none_counted first [] none = refl
none_counted first (count ∷ counts) none = by (nat_lt 0 count) refl none (none_counted (first + 1) counts) where
  by : (some : Bool) → nat_lt 0 count ≡ some → (some || list_any (λ (n : ℕ). nat_lt 0 n) counts) ≡ false → (list_any (λ (n : ℕ). nat_lt 0 n) counts ≡ false → slots_from (first + 1) counts ≡ []) → slots first 0 count ++ slots_from (first + 1) counts ≡ []
  by true is e later = absurd cc
  by false is e later =
      let zero_is : count ≡ 0 = omega (arith, ltb-false 0 count is) in
      rw zero_is (later e)

-- if no section after has an item, one more comes after all others
one_more_counted : (first : ℕ) (counts : List ℕ) (section : ℕ) → section < length counts → list_any (λ count. nat_lt 0 count) (drop (suc section) counts) ≡ false
    → slots_from first (set counts section (get_or counts section 0 + 1)) ≡ slots_from first counts ++ (first + section, get_or counts section 0) ∷ []
unfolding slots_from
one_more_counted first [] section within none = absurd (omega arith)
one_more_counted first (count ∷ counts) zero within none =
    let nothing = none_counted (first + 1) counts none in
    let here : first + 0 ≡ first = add-zero first in
    rw (nothing, here, append-nil (slots first 0 (count + 1)), append-nil (slots first 0 count))
    (slots_more first 0 count ∙ ap (λ (k : ℕ). slots first 0 count ++ (first, k) ∷ []) (zero-add count))
one_more_counted first (count ∷ counts) (suc section) within none =
    let place : first + 1 + section ≡ first + suc section = omega arith in
    ap (λ (l : List (ℕ × ℕ)). slots first 0 count ++ l) (one_more_counted (first + 1) counts section (omega (arith, within)) none)
    ∙ sym (append_assoc (slots first 0 count) (slots_from (first + 1) counts) ((first + 1 + section, get_or counts section 0) ∷ []))
    ∙ ap (λ (s : ℕ). (slots first 0 count ++ slots_from (first + 1) counts) ++ (s, get_or counts section 0) ∷ []) place

-- the counted items after a push: the message's, and then one more of the section
one_more_slot : (section : ℕ) (header contents new : List ℕ) → section < 4 → length header ≡ 12 → has_later section header ≡ false → count_in section header < 65535
    → counted_slots (with_count section (count_in section header + 1) header ++ new) ≡ counted_slots (header ++ contents) ++ (section, count_in section header) ∷ []
one_more_slot section header contents new below twelve last few =
    let count = count_in section header in
    let none : list_any (λ (n : ℕ). nat_lt 0 n) (drop (suc section) (counts_of header)) ≡ false =
    subst (λ (k : ℕ). list_any (λ (n : ℕ). nat_lt 0 n) (drop k (counts_of header)) ≡ false) (add-one section) last in
    let written = with_count section (count + 1) header in
    let counts : counts_of (written ++ new) ≡ set (counts_of header) section (count + 1) =
    counts_in_prefix written new (omega (arith, header_long section (count + 1) header below twelve))
    ∙ counts_with section (count + 1) header below (omega (arith, few)) (omega (arith, twelve)) in
    let before : counts_of header ≡ counts_of (header ++ contents) = sym (counts_in_prefix header contents (omega (arith, twelve))) in
    ap (slots_from 0) counts
    ∙ one_more_counted 0 (counts_of header) section (omega (arith, below)) none
    ∙ ap (λ (s : ℕ). slots_from 0 (counts_of header) ++ (s, count) ∷ []) (zero-add section)
    ∙ ap (λ (l : List ℕ). slots_from 0 l ++ (section, count) ∷ []) before

-- ---- the message

pub pushed_whole : (section : ℕ) (writes : CompressedWrite) (draft : Draft) (items : List Item) (item : Item) → section < 4 → length draft.header ≡ 12
    → has_later section draft.header ≡ false → count_in section draft.header < 65535 → message_reading (drafted draft) ≡ Whole items (length draft.contents)
    → item_at section (pushed section writes draft).contents (length draft.contents) ≡ Some (item, length (pushed section writes draft).contents)
    → message_reading (drafted (pushed section writes draft)) ≡ Whole (items ++ item ∷ []) (length (pushed section writes draft).contents)
pushed_whole section writes draft items item below twelve last few whole e =
    let contents = draft.contents in
    let after = pushed section writes draft in
    let slot : ℕ × ℕ = (section, count_in section draft.header) in
    let slots_before = counted_slots (drafted draft) in
    let long = header_long section (count_in section draft.header + 1) draft.header below twelve in
    let counted : counted_slots (drafted after) ≡ slots_before ++ slot ∷ [] = one_more_slot section draft.header contents after.contents below twelve last few in
    let read : ItemsAt contents slots_before 0 items (length contents) =
    subst (λ (l : List ℕ). ItemsAt l slots_before 0 items (length contents)) (drop_at draft.header contents 12 twelve) (read_whole (drafted draft) items (length contents) whole).read in
    let before : ItemsAt after.contents slots_before 0 items (length contents) = items_more contents (writes contents draft.places).0 slots_before 0 items (length contents) read in
    let one : ItemsAt after.contents (slot ∷ []) (length contents) (item ∷ []) (length after.contents) =
    (item, length after.contents, [], item_is section after.contents (length contents) item (length after.contents) e, refl, (refl, refl)) in
    let all = items_append after.contents slots_before (slot ∷ []) 0 items (item ∷ []) (length contents) (length after.contents) before one in
    whole_read (drafted after) (items ++ item ∷ []) (length after.contents)
    (record { header = omega (arith, length-append after.header after.contents, long); read = rw (drop_at after.header after.contents 12 long, counted) all })

pub records_of_question : (items : List Item) (question : Question) → records_among (items ++ QuestionItem question ∷ []) ≡ records_among items
records_of_question items question = among_append items (QuestionItem question ∷ []) ∙ append-nil (records_among items)

pub records_of_record : (items : List Item) (found : RecordValue) → records_among (items ++ RecordItem found ∷ []) ≡ records_among items ++ found ∷ []
records_of_record items found = among_append items (RecordItem found ∷ [])

-- ---- a message without items

pub new_whole : (draft : Draft) (id flags : ℕ) → draft.header ≡ to_be_bytes w16 id ++ to_be_bytes w16 flags ++ replicate 8 0 → draft.contents ≡ [] → message_reading (drafted draft) ≡ Whole [] 0
unfolding message_by reading_by slots_from slots
new_whole draft id flags header contents = rw (header, contents) refl
