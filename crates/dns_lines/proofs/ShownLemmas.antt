-- Answers are lines, and digits are no marked line.
use Rattle.std.proofs.Common.{◌≡◌, ◌≢◌, eqb, ℕ, zero, suc, ◌+◌, ◌/◌, ◌%◌, ◌≤◌, Bool, true, false, cond, List, [], ◌∷◌, ◌++◌, length, flat_map, codes, slice_index, nat_lt, Option, Some, None, refl, sym, ap, subst, ◌∙◌, ◌⊎◌, inl, inr, append-nil, append_assoc, arith, decimal, drop, get_or}
use Rattle.std.specs.Fmt.{digit_glyph, digits, digits_onto}
use Rattle.std.specs.Int.{w32, to_be_bytes}
use Rattle.std.specs.Option.{option_map}
use Rattle.std.specs.List.{All, AllByRecursion, concat, list_any}
use Rattle.sha2.specs.Sha512.{sha384}
use Rattle.dns_message.specs.Order.{SortKey, canonical_list}
use Rattle.std.proofs.lemmas.Bool.{agree_below_at, cases_lt}
use Rattle.std.proofs.lemmas.List.{get_or_past}
use Rattle.std.proofs.lemmas.List.Concat.{flat_map-cons}
use Rattle.dns_text.specs.Hexadecimal.{line, shown, spelled, trim}
use Rattle.dns_command.specs.Notes.{note_line, notice_line, spaced}
use Rattle.dns_command.specs.declared.notice.Notice.TheVariants as notice
use Rattle.dns_wire.specs.Octets.{Labels}
use Rattle.dns_message.specs.Forms.{form_owner_key}
use Rattle.dns_message.specs.FormsRead.{forms_of}
use Rattle.dns_message.specs.Messages.{RecordValue}
use Rattle.dns_message.specs.Same.{Same}
use Rattle.dns_command.specs.Texts.{HasRecords}
use Rattle.dns_message.specs.WellFormed.{WellFormed}
use Rattle.dns_wire.specs.Reading.{AreOctets}
use Rattle.dns_command.proofs.TextLemmas.{one_records, text_well}
use Rattle.dns_wire.specs.Names.{wire}
use Rattle.dns_denial.specs.Signed.{algorithm, is_signature, key_tag_field, labels_field, signature_field, signed_octets, signer, type_covered}
use Rattle.dns_denial.specs.Texts.{members}
use Rattle.dns_normal.specs.Normal.{normal_form}
use Rattle.dns_normal.specs.Texts.{NormalRefusal, normal_note}
use Rattle.dns_command.specs.declared.refusal.Refusal.TheVariants.{BadHex, Short, Item, Own}
use Rattle.dns_normal.specs.declared.refusal.NormalReason.TheVariants.{TooLarge}
use Rattle.dns_normal.proofs.NormalForms.{normal_octets, other_normal}
use Rattle.dns_normal.proofs.NormalOutcomes.{accepted_size}
use Rattle.dns_normal.proofs.NormalTexts.{line_back}
use Rattle.dns_lines.specs.Answers.{IsAnswer, PrintsFor, refusal_for, refusal_line}
use Rattle.dns_record_lines.specs.RecordLines.{class_and_type, field, record_line}
use Rattle.dns_lines.specs.Records.{has_line, record_lines, record_part}
use Rattle.dns_lines.specs.Signatures.{marked, number_field, octets_field, signature_answer, signature_line, signature_numbers, signature_part}
use Rattle.dns_lines.specs.Lines.{IsLine, ended}
use Rattle.dns_lines.specs.declared.command.LineCommand.{LineCommand}
use Rattle.dns_lines.specs.declared.command.LineCommand.TheVariants.{Normal, Digest, Signed, Records}
use Rattle.dns_lines.proofs.LineLemmas.{all_append}
use Rattle.dns_lines.proofs.AnswerLemmas.{answer_printed, answer_refused, long_line, records_refusal, short_line}

-- octets that are one line with its LF
abbrev IsOneLine : List ℕ → Type 0
IsOneLine octets = (shown : List ℕ) × IsLine shown × (octets ≡ ended shown)

-- ---- digits

digit_line : (n : ℕ) → slice_index (codes "0123456789abcdef") n ≢ 10
digit_line n is = elim (cases_lt n 16) [
  | inl below ↦ (
      let none = agree_below_at (λ (k : ℕ). eqb (slice_index (codes "0123456789abcdef") k) 10) (λ (k : ℕ). false) 16 n refl below in
      let clash = sym none ∙ ap (λ (k : ℕ). eqb k 10) is in absurd cc
      )
  | inr past ↦ (let clash = sym (get_or_past (codes "0123456789abcdef") n 0 past) ∙ is in absurd (omega (arith, clash)))
]

shown_line : (octets : List ℕ) → IsLine (flat_map shown octets)
shown_line [] = tt
shown_line (b ∷ octets) = subst IsLine (sym (flat_map-cons shown b octets)) (digit_line (b / 16), (digit_line (b % 16), shown_line octets))

-- ---- notes

glyph_line : (d : ℕ) → digit_glyph false d ≢ 10
glyph_line d is = by (nat_lt d 10) refl where
  by : (b : Bool) → nat_lt d 10 ≡ b → ⊥
  by true e = (let at = ap (λ (b : Bool). cond b (48 + d) (87 + d)) e in absurd (omega (arith, sym at ∙ is)))
  by false e = (let at = ap (λ (b : Bool). cond b (48 + d) (87 + d)) e in absurd (omega (arith, sym at ∙ is)))

onto_line : (k n : ℕ) (after : List ℕ) → IsLine after → IsLine (digits_onto k 10 false n after)
onto_line zero n after is = is
onto_line (suc k) n after is = by (eqb (n / 10) 0) refl (onto_line k (n / 10) (digit_glyph false (n % 10) ∷ after) (glyph_line (n % 10), is)) where
  by : (b : Bool) → eqb (n / 10) 0 ≡ b → IsLine (digits_onto k 10 false (n / 10) (digit_glyph false (n % 10) ∷ after)) → IsLine (digits_onto (suc k) 10 false n after)
  by true e more = rw e (glyph_line (n % 10), is)
  by false e more = rw e more

decimal_line : (n : ℕ) → IsLine (decimal n)
unfolding digits
decimal_line n = onto_line 64 n [] tt

numbers_line : (numbers : List ℕ) → IsLine (flat_map spaced numbers)
numbers_line [] = tt
numbers_line (n ∷ numbers) =
    subst IsLine (sym (flat_map-cons spaced n numbers)) ((λ e. absurd cc), all_append (λ b. b ≢ 10) (decimal n) (flat_map spaced numbers) (decimal_line n) (numbers_line numbers))

no_feed_line : (text : List ℕ) → list_any (λ b. eqb b 10) text ≡ false → IsLine text
no_feed_line [] none = tt
no_feed_line (b ∷ text) none =
    (λ is. (let same = ap (λ (k : ℕ). eqb k 10) is in absurd (by (eqb b 10) refl same)), no_feed_line text (rest (eqb b 10) refl)) where
      by : (c : Bool) → eqb b 10 ≡ c → eqb b 10 ≡ true → ⊥
      by true e same = (let clash = sym none in absurd cc)
      by false e same = absurd cc

      rest : (c : Bool) → eqb b 10 ≡ c → list_any (λ b. eqb b 10) text ≡ false
      rest true e = absurd cc
      rest false e = cc

note_is_line : (word numbers : List ℕ) → list_any (λ b. eqb b 10) word ≡ false → IsOneLine (marked (note_line word numbers))
note_is_line word numbers none = (
  codes "! " ++ (word ++ flat_map spaced numbers),
  ((λ e. absurd cc), ((λ e. absurd cc), all_append (λ b. b ≢ 10) word (flat_map spaced numbers) (no_feed_line word none) (numbers_line numbers))),
  ap (λ (l : List ℕ). codes "! " ++ l) (sym (append_assoc word (flat_map spaced numbers) (10 ∷ []))),
)

refusal_is_line : (refused : NormalRefusal) → IsOneLine (marked (normal_note refused))
refusal_is_line BadHex = note_is_line (codes "bad hex") [] refl
refusal_is_line (Short message) = note_is_line (codes "short") (0 ∷ []) refl
refusal_is_line (Item message section index) = note_is_line (codes "item") (0 ∷ section ∷ index ∷ []) refl
refusal_is_line (Own TooLarge) = note_is_line (codes "too large") [] refl

-- ---- answers

printed_line : (command : LineCommand) (t printed : List ℕ) → command ≢ Signed → ((apex : Option Labels) → command ≢ Records apex) → PrintsFor command t printed → IsOneLine printed
printed_line Normal t printed other unlike (rs, has, is) = (flat_map shown (normal_form rs), shown_line (normal_form rs), is)
printed_line Digest t printed other unlike (rs, has, is) = let octets = sha384 (concat (canonical_list rs)) in (flat_map shown octets, shown_line octets, is)
printed_line Signed t printed other unlike prints = absurd (other refl)
printed_line (Records apex) t printed other unlike prints = absurd (unlike apex refl)

-- an answer is a marked line, or what is printed
marked_or_printed : (command : LineCommand) (t answer : List ℕ) → IsAnswer command t answer → IsOneLine answer ⊎ PrintsFor command t answer
marked_or_printed command t answer is = elim (cases_lt 131072 (length t)) [
  | inl long ↦ inl (subst IsOneLine (sym (answer_refused command t (notice_line notice.TooLong) answer (long_line command t long) is)) (note_is_line (codes "too long") [] refl))
  | inr short ↦ on_refusal (short_line command t short) (refusal_for command t) refl
] where
  on_refusal : refusal_line command t ≡ option_map normal_note (refusal_for command t) → (o : Option NormalRefusal) → refusal_for command t ≡ o → IsOneLine answer ⊎ PrintsFor command t answer
  on_refusal e None f = inr (answer_printed command t answer (e ∙ ap (option_map normal_note) f) is)
  on_refusal e (Some r) f = inl (subst IsOneLine (sym (answer_refused command t (normal_note r) answer (e ∙ ap (option_map normal_note) f) is)) (refusal_is_line r))

pub answer_is_line : (command : LineCommand) (t answer : List ℕ) → command ≢ Signed → ((apex : Option Labels) → command ≢ Records apex) → IsAnswer command t answer → IsOneLine answer
answer_is_line command t answer other unlike is = elim (marked_or_printed command t answer is) [ inl one ↦ one | inr prints ↦ printed_line command t answer other unlike prints ]

-- ---- the lines of signatures

-- octets that are some whole lines
abbrev AreLines : List ℕ → Type 0
AreLines octets = (shown : List (List ℕ)) × AllByRecursion IsLine shown × (octets ≡ flat_map ended shown)

both_lines : (xs ys : List ℕ) → IsLine xs → IsLine ys → IsLine (xs ++ ys)
both_lines = all_append (λ b. b ≢ 10)

number_line : (n : ℕ) → IsLine (number_field n)
number_line n = both_lines (decimal n) (codes " ") (decimal_line n) ((λ e. absurd cc), tt)

octets_line : (octets : List ℕ) → IsLine (octets_field octets)
octets_line [] = ((λ e. absurd cc), ((λ e. absurd cc), tt))
octets_line (b ∷ octets) = both_lines (flat_map shown (b ∷ octets)) (codes " ") (shown_line (b ∷ octets)) ((λ e. absurd cc), tt)

one_more : (front back : List ℕ) → IsLine front → IsOneLine back → IsOneLine (front ++ back)
one_more front back is (shown, line, back-is) = (front ++ shown, both_lines front shown is line, ap (λ (l : List ℕ). front ++ l) back-is ∙ sym (append_assoc front shown (10 ∷ [])))

signature_is_line : (records : List SortKey) (g : SortKey) → IsOneLine (signature_line records g)
signature_is_line records g =
    one_more (signature_numbers g.octets) _
    (both_lines (number_field (type_covered g.octets)) _ (number_line (type_covered g.octets))
    (both_lines (number_field (algorithm g.octets)) _ (number_line (algorithm g.octets))
    (both_lines (number_field (labels_field g.octets)) (number_field (key_tag_field g.octets)) (number_line (labels_field g.octets)) (number_line (key_tag_field g.octets)))))
    (one_more (octets_field (wire (signer g.octets))) _ (octets_line (wire (signer g.octets)))
    (one_more (octets_field (signature_field g.octets)) (line (signed_octets records g)) (octets_line (signature_field g.octets))
    (flat_map shown (signed_octets records g), shown_line (signed_octets records g), refl)))

answer_to_signature : (records : List SortKey) (g : SortKey) → IsOneLine (signature_answer records g)
answer_to_signature records g = by (nat_lt (length g.owner) (labels_field g.octets)) where
  by : (b : Bool) → IsOneLine (cond {A = List ℕ} b (marked (note_line (codes "too many labels") [])) (signature_line records g))
  by true = note_is_line (codes "too many labels") [] refl
  by false = signature_is_line records g

part_before : (records : List SortKey) (k : SortKey) (rest : List ℕ) (b : Bool) → AreLines rest → AreLines (cond {A = List ℕ} b (signature_answer records k) [] ++ rest)
part_before records k rest false are = are
part_before records k rest true (shown, are, rest-is) =
    let one = answer_to_signature records k in
    (one.0 ∷ shown, (one.1, are), (λ i. one.2 i ++ rest-is i) ∙ sym (flat_map-cons ended one.0 shown))

parts_are_lines : (records ks : List SortKey) → AreLines (flat_map (signature_part records) ks)
parts_are_lines records [] = ([], tt, refl)
parts_are_lines records (k ∷ ks) =
    subst AreLines (sym (flat_map-cons (signature_part records) k ks)) (part_before records k (flat_map (signature_part records) ks) (is_signature k) (parts_are_lines records ks))

-- ---- the lines of records

field_line : (octets rest : List ℕ) → IsLine rest → IsLine (field octets rest)
field_line octets rest is = both_lines (flat_map shown octets) (32 ∷ rest) (shown_line octets) ((λ e. absurd cc), is)

record_is_line : (k : SortKey) → IsLine (record_line k)
unfolding record_line
record_is_line k =
    field_line (form_owner_key k) _ (field_line (class_and_type k) _ (field_line k.octets _ (shown_line (to_be_bytes w32 k.ttl))))

record_before : (k : SortKey) (rest : List ℕ) (b : Bool) → AreLines rest → AreLines (cond {A = List ℕ} b (ended (record_line k)) [] ++ rest)
record_before k rest false are = are
record_before k rest true (shown, are, rest-is) = (record_line k ∷ shown, (record_is_line k, are), ap (λ (l : List ℕ). ended (record_line k) ++ l) rest-is ∙ sym (flat_map-cons ended (record_line k) shown))

records_are_lines : (apex : Option Labels) (ks : List SortKey) → AreLines (record_lines apex ks)
records_are_lines apex [] = ([], tt, refl)
records_are_lines apex (k ∷ ks) = subst AreLines (sym (flat_map-cons (record_part apex) k ks)) (record_before k (record_lines apex ks) (has_line apex k) (records_are_lines apex ks))

-- ---- each answer

printed_lines : (command : LineCommand) (t printed : List ℕ) → PrintsFor command t printed → AreLines printed
printed_lines Normal t printed (rs, has, is) = (flat_map shown (normal_form rs) ∷ [], (shown_line (normal_form rs), tt), is ∙ sym (append-nil (line (normal_form rs))))
printed_lines Digest t printed (rs, has, is) = let octets = sha384 (concat (canonical_list rs)) in (flat_map shown octets ∷ [], (shown_line octets, tt), is ∙ sym (append-nil (line octets)))
printed_lines Signed t printed (rs, has, is) = subst AreLines (sym is) (parts_are_lines (members rs) (members rs))
printed_lines (Records apex) t printed (rs, has, is) = subst AreLines (sym is) (records_are_lines apex (forms_of rs))

pub answer_is_lines : (command : LineCommand) (t answer : List ℕ) → IsAnswer command t answer → AreLines answer
answer_is_lines command t answer is = elim (marked_or_printed command t answer is) [
  | inl one ↦ (one.0 ∷ [], (one.1, tt), one.2 ∙ sym (append-nil (ended one.0)))
  | inr prints ↦ printed_lines command t answer prints
]

-- ---- equal answers to lines with other records

-- what an octet 0 begins is shown with the digit 0 first
first_digit : (octets : List ℕ) → (rest : List ℕ) × (line (0 ∷ octets) ≡ 48 ∷ rest)
first_digit octets = ((48 ∷ flat_map shown octets) ++ 10 ∷ [], ap (λ (l : List ℕ). l ++ 10 ∷ []) (flat_map-cons shown 0 octets))

-- a normal form begins with the octet 0
first_octet : (rs : List RecordValue) → (rest : List ℕ) × (normal_form rs ≡ 0 ∷ rest)
first_octet rs = (drop 1 (normal_form rs), refl)

-- digits are no marked line
no_digits : (rs : List RecordValue) (note answer : List ℕ) → answer ≡ line (normal_form rs) → answer ≡ marked note → ⊥
no_digits rs note answer digits-are is =
    let octets = first_octet rs in
    let digits = first_digit octets.0 in
    let same : 48 ∷ digits.0 ≡ marked note = sym digits.1 ∙ ap line (sym octets.1) ∙ sym digits-are ∙ is in
    omega (arith, ap (λ (l : List ℕ). get_or l 0 0) same)

-- equal digits are those of equal octets
one_form : (octets others : List ℕ) → AreOctets octets → AreOctets others → line octets ≡ line others → octets ≡ others
one_form octets others are also is =
    let both : Some octets ≡ Some others = sym (line_back octets are) ∙ ap (λ (l : List ℕ). spelled (trim l)) is ∙ line_back others also in cc

-- the digits that are printed for the text of a message
printed_digits : (t answer : List ℕ) (rs : List RecordValue) → HasRecords t rs → PrintsFor Normal t answer → answer ≡ line (normal_form rs)
printed_digits t answer rs has (ss, also, is) = is ∙ ap (λ (l : List RecordValue). line (normal_form l)) (one_records t ss rs also has)

on_refusal : (u answer : List ℕ) (rs ss : List RecordValue) → All WellFormed rs → All WellFormed ss → HasRecords u ss → length (normal_form rs) ≤ 65535 → answer ≡ line (normal_form rs) → IsAnswer Normal u answer → (o : Option (List ℕ)) → refusal_line Normal u ≡ o → Same rs ss
on_refusal u answer rs ss well others second small digits-are also None f =
    other_normal rs ss well others small
    (one_form (normal_form rs) (normal_form ss) (normal_octets rs well) (normal_octets ss others) (sym digits-are ∙ printed_digits u answer ss second (answer_printed Normal u answer f also)))
on_refusal u answer rs ss well others second small digits-are also (Some note) f = absurd (no_digits rs note answer digits-are (answer_refused Normal u note answer f also))

pub different_answers : (t u answer : List ℕ) (rs ss : List RecordValue) → HasRecords t rs → HasRecords u ss → length t ≤ 131072 → length u ≤ 131072 → length (normal_form rs) ≤ 65535
    → IsAnswer Normal t answer → IsAnswer Normal u answer → Same rs ss
different_answers t u answer rs ss first second short few small is also =
    let accepted = short_line Normal t short ∙ ap (option_map normal_note) (records_refusal Normal t rs first ∙ accepted_size (normal_form rs) small) in
    let digits-are = printed_digits t answer rs first (answer_printed Normal t answer accepted is) in
    on_refusal u answer rs ss (text_well t rs first) (text_well u ss second) second small digits-are also (refusal_line Normal u) refl
