-- The answers to lines.
use Rattle.std.proofs.Common.{◌≡◌, ◌≢◌, ℕ, ◌<◌, ◌≤◌, Bool, cond, List, [], ◌∷◌, ◌++◌, length, length-take, take, take_all, Option, Some, None, refl, sym, ap, subst, ◌∙◌, inl, inr, arith}
use Rattle.std.specs.Option.{option_map}
use Rattle.std.specs.List.{concat}
use Rattle.std.proofs.lemmas.Bool.{cases_lt, le-ltb, lt-ltb}
use Rattle.std.proofs.lemmas.List.Folds.{concat-append}
use Rattle.sha2.specs.Sha512.{sha384}
use Rattle.dns_text.specs.Hexadecimal.{line}
use Rattle.dns_command.specs.Notes.{notice_line}
use Rattle.dns_command.specs.declared.notice.Notice.TheVariants as notice
use Rattle.dns_wire.specs.Octets.{Labels}
use Rattle.dns_message.specs.FormsRead.{forms_of}
use Rattle.dns_message.specs.Messages.{RecordValue}
use Rattle.dns_message.specs.Order.{canonical_list}
use Rattle.dns_message.specs.Same.{Same}
use Rattle.dns_record.specs.FurtherFormats.{data_by}
use Rattle.dns_record.specs.declared.formats.Formats.TheVariants.{Listed}
use Rattle.dns_command.specs.Texts.{HasRecordsBy}
use Rattle.dns_message.proofs.CanonicalListSameness.{canonical_list_from_same, keys_from_same}
use Rattle.dns_command.proofs.TextLemmas.{one_records, one_records_by, text_well}
use Rattle.dns_normal.specs.Normal.{normal_form}
use Rattle.dns_denial.specs.Texts.{members}
use Rattle.dns_command.proofs.RefusalLemmas.{text_refusal, text_refusal_by}
use Rattle.dns_normal.specs.Texts.{NormalRefusal, form_refusal, normal_note, size_refusal}
use Rattle.dns_normal.proofs.NormalForms.{same_normal}
use Rattle.dns_lines.specs.Answers.{Answers, AreAnswers, IsAnswer, IsAnswerAs, PrintsFor, formats_for, refusal_for, refusal_line}
use Rattle.dns_lines.specs.Lines.{HasLines, ended}
use Rattle.dns_lines.specs.Records.{record_lines}
use Rattle.dns_lines.specs.Signatures.{marked, signature_lines}
use Rattle.dns_lines.specs.declared.command.LineCommand.{LineCommand}
use Rattle.dns_lines.specs.declared.command.LineCommand.TheVariants.{Normal, Digest, Signed, Records}
use Rattle.dns_lines.proofs.LineLemmas.{ended_lines, lines_on, one_lines}

-- ---- the answer to a line

-- the refusal of a line that is too long, and of one that is not
pub long_line : (command : LineCommand) (text : List ℕ) → 131072 < length text → refusal_line command text ≡ Some (notice_line notice.TooLong)
long_line command text long = ap (λ (b : Bool). cond b (Some (notice_line notice.TooLong)) (option_map normal_note (refusal_for command text))) (lt-ltb 131072 (length text) long)

pub short_line : (command : LineCommand) (text : List ℕ) → length text ≤ 131072 → refusal_line command text ≡ option_map normal_note (refusal_for command text)
short_line command text short = ap (λ (b : Bool). cond b (Some (notice_line notice.TooLong)) (option_map normal_note (refusal_for command text))) (le-ltb 131072 (length text) short)

-- answers by what refuses a line, or nothing
pub refused_answer : (command : LineCommand) (text note answer : List ℕ) → refusal_line command text ≡ Some note → answer ≡ marked note → IsAnswer command text answer
refused_answer command text note answer refused is = subst (λ (o : Option (List ℕ)). IsAnswerAs command text o answer) (sym refused) is

pub answer_refused : (command : LineCommand) (text note answer : List ℕ) → refusal_line command text ≡ Some note → IsAnswer command text answer → answer ≡ marked note
answer_refused command text note answer refused is = subst (λ (o : Option (List ℕ)). IsAnswerAs command text o answer) refused is

pub printed_answer : (command : LineCommand) (text answer : List ℕ) → refusal_line command text ≡ None → PrintsFor command text answer → IsAnswer command text answer
printed_answer command text answer accepted prints = subst (λ (o : Option (List ℕ)). IsAnswerAs command text o answer) (sym accepted) prints

pub answer_printed : (command : LineCommand) (text answer : List ℕ) → refusal_line command text ≡ None → IsAnswer command text answer → PrintsFor command text answer
answer_printed command text answer accepted is = subst (λ (o : Option (List ℕ)). IsAnswerAs command text o answer) accepted is

-- the answer to as much of a line as is kept is the answer to the line
pub kept_answer : (command : LineCommand) (text answer : List ℕ) → IsAnswer command (take 131073 text) answer → IsAnswer command text answer
kept_answer command text answer is = elim (cases_lt 131072 (length text)) [
  | inl long ↦ refused_answer command text (notice_line notice.TooLong) answer (long_line command text long)
      (answer_refused command (take 131073 text) (notice_line notice.TooLong) answer (long_line command (take 131073 text) (omega (arith, long, length-take 131073 text))) is)
  | inr short ↦ subst (λ (l : List ℕ). IsAnswer command l answer) (take_all 131073 text (omega (arith, short))) is
]

-- ---- one answer

-- what is printed for one of two texts with the same records is printed for the other, unless their lines are in the order of the messages
same_printed : (command : LineCommand) (t u printed other : List ℕ) (rs ss : List RecordValue) → ((apex : Option Labels) → command ≢ Records apex) → HasRecordsBy (data_by (formats_for command)) t rs → HasRecordsBy (data_by (formats_for command)) u ss → Same rs ss
    → PrintsFor command t printed → PrintsFor command u other → printed ≡ other
same_printed Normal t u printed other rs ss unlike first second same (rs', has, is) (ss', also, js) =
    is ∙ ap (λ (l : List RecordValue). line (normal_form l)) (one_records t rs' rs has first) ∙ ap line (same_normal rs ss (text_well t rs first) (text_well u ss second) same)
    ∙ ap (λ (l : List RecordValue). line (normal_form l)) (one_records u ss ss' second also) ∙ sym js
same_printed Digest t u printed other rs ss unlike first second same (rs', has, is) (ss', also, js) =
    is ∙ ap (λ (l : List RecordValue). line (sha384 (concat (canonical_list l)))) (one_records t rs' rs has first) ∙ ap (λ (l : List (List ℕ)). line (sha384 (concat l))) (canonical_list_from_same rs ss same)
    ∙ ap (λ (l : List RecordValue). line (sha384 (concat (canonical_list l)))) (one_records u ss ss' second also) ∙ sym js
same_printed Signed t u printed other rs ss unlike first second same (rs', has, is) (ss', also, js) =
    is ∙ ap (λ (l : List RecordValue). signature_lines (members l)) (one_records_by (data_by Listed) t rs' rs has first) ∙ ap signature_lines (keys_from_same rs ss same)
    ∙ ap (λ (l : List RecordValue). signature_lines (members l)) (one_records_by (data_by Listed) u ss ss' second also) ∙ sym js
same_printed (Records apex) t u printed other rs ss unlike first second same is also = absurd (unlike apex refl)

one_printed : (command : LineCommand) (t printed other : List ℕ) → PrintsFor command t printed → PrintsFor command t other → printed ≡ other
one_printed Normal t printed other (rs, has, is) (ss, also, js) = is ∙ ap (λ (l : List RecordValue). line (normal_form l)) (one_records t rs ss has also) ∙ sym js
one_printed Digest t printed other (rs, has, is) (ss, also, js) =
    is ∙ ap (λ (l : List RecordValue). line (sha384 (concat (canonical_list l)))) (one_records t rs ss has also) ∙ sym js
one_printed Signed t printed other (rs, has, is) (ss, also, js) =
    is ∙ ap (λ (l : List RecordValue). signature_lines (members l)) (one_records_by (data_by Listed) t rs ss has also) ∙ sym js
one_printed (Records apex) t printed other (rs, has, is) (ss, also, js) =
    is ∙ ap (λ (l : List RecordValue). record_lines apex (forms_of l)) (one_records_by (data_by Listed) t rs ss has also) ∙ sym js

pub one_answer : (command : LineCommand) (text answer other : List ℕ) → IsAnswer command text answer → IsAnswer command text other → answer ≡ other
one_answer command text answer other is also = on_refusal (refusal_line command text) is also where
  on_refusal : (o : Option (List ℕ)) → IsAnswerAs command text o answer → IsAnswerAs command text o other → answer ≡ other
  on_refusal None p q = one_printed command text answer other p q
  on_refusal (Some note) p q = p ∙ sym q

-- ---- the answers to several lines

-- answers after others
pub answers_append : (command : LineCommand) (lines others answers more : List (List ℕ)) → AreAnswers command lines answers → AreAnswers command others more → AreAnswers command (lines ++ others) (answers ++ more)
answers_append command [] others [] more are also = also
answers_append command [] others (a ∷ answers) more are also = absurd are
answers_append command (l ∷ lines) others [] more are also = absurd are
answers_append command (l ∷ lines) others (a ∷ answers) more are also = (are.0, answers_append command lines others answers more are.1 also)

one_answers : (command : LineCommand) (lines answers others : List (List ℕ)) → AreAnswers command lines answers → AreAnswers command lines others → answers ≡ others
one_answers command [] [] [] are also = refl
one_answers command [] [] (b ∷ others) are also = absurd also
one_answers command [] (a ∷ answers) others are also = absurd are
one_answers command (l ∷ lines) [] others are also = absurd are
one_answers command (l ∷ lines) (a ∷ answers) [] are also = absurd also
one_answers command (l ∷ lines) (a ∷ answers) (b ∷ others) are also =
    (λ k. one_answer command l a b are.0 also.0 k ∷ one_answers command lines answers others are.1 also.1 k)

pub one_text : (command : LineCommand) (t written other : List ℕ) → Answers command t written → Answers command t other → written ≡ other
one_text command t written other first second =
    let same = one_lines t first.lines second.lines first.has second.has in
    let are = subst (λ (l : List (List ℕ)). AreAnswers command l first.answers) same first.are in
    first.written_is ∙ ap concat (one_answers command second.lines first.answers second.answers are second.are) ∙ sym second.written_is

pub divided : (command : LineCommand) (t u written other : List ℕ) → Answers command (ended t) written → Answers command u other → Answers command (ended t ++ u) (written ++ other)
divided command t u written other first second =
    let parts = ended_lines t first.lines first.has in
    record {
      lines = first.lines ++ second.lines;
      answers = first.answers ++ second.answers;
      has = subst (λ (l : List ℕ). HasLines (l ++ u) (first.lines ++ second.lines)) (sym parts.1) (lines_on first.lines u second.lines parts.0 second.has);
      are = answers_append command first.lines second.lines first.answers second.answers first.are second.are;
      written_is = (λ k. first.written_is k ++ second.written_is k) ∙ sym (concat-append first.answers second.answers);
    }

-- ---- lines with the same records

-- why a text is refused whose records are these
abbrev pub refusal_of : LineCommand → List RecordValue → Option NormalRefusal
refusal_of Normal rs = form_refusal rs
refusal_of Digest rs = None
refusal_of Signed rs = None
refusal_of (Records apex) rs = None

pub records_refusal : (command : LineCommand) (t : List ℕ) (rs : List RecordValue) → HasRecordsBy (data_by (formats_for command)) t rs → refusal_for command t ≡ refusal_of command rs
records_refusal Normal t rs has = text_refusal (record {}) form_refusal t rs has
records_refusal Digest t rs has = text_refusal (record {}) (λ rs. None) t rs has
records_refusal Signed t rs has = text_refusal_by (data_by Listed) (record {}) (λ rs. None) t rs has
records_refusal (Records apex) t rs has = text_refusal_by (data_by Listed) (record {}) (λ rs. None) t rs has

same_refusal : (command : LineCommand) (t u : List ℕ) (rs ss : List RecordValue) → HasRecordsBy (data_by (formats_for command)) t rs → HasRecordsBy (data_by (formats_for command)) u ss → Same rs ss → refusal_of command rs ≡ refusal_of command ss
same_refusal Normal t u rs ss first second same = ap (λ (m : List ℕ). size_refusal m) (same_normal rs ss (text_well t rs first) (text_well u ss second) same)
same_refusal Digest t u rs ss first second same = refl
same_refusal Signed t u rs ss first second same = refl
same_refusal (Records apex) t u rs ss first second same = refl

pub equal_answers : (command : LineCommand) (t u answer reply : List ℕ) (rs ss : List RecordValue) → ((apex : Option Labels) → command ≢ Records apex) → HasRecordsBy (data_by (formats_for command)) t rs → HasRecordsBy (data_by (formats_for command)) u ss → Same rs ss → length t ≤ 131072 → length u ≤ 131072
    → IsAnswer command t answer → IsAnswer command u reply → answer ≡ reply
equal_answers command t u answer reply rs ss unlike first second same short few is also =
    let e = short_line command t short ∙ ap (option_map normal_note) (records_refusal command t rs first) in
    let f = short_line command u few ∙ ap (option_map normal_note) (records_refusal command u ss second ∙ sym (same_refusal command t u rs ss first second same)) in
    on_refusal (option_map normal_note (refusal_of command rs)) e f
  where
    on_refusal : (o : Option (List ℕ)) → refusal_line command t ≡ o → refusal_line command u ≡ o → answer ≡ reply
    on_refusal None e f = same_printed command t u answer reply rs ss unlike first second same (answer_printed command t answer e is) (answer_printed command u reply f also)
    on_refusal (Some note) e f = answer_refused command t note answer e is ∙ sym (answer_refused command u note reply f also)
