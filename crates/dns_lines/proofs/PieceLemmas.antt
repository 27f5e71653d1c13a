-- A text that is read in pieces, and its lines answered.
use Rattle.std.proofs.Common.{◌≡◌, ℕ, zero, suc, ◌+◌, ◌<◌, ◌≤◌, List, [], ◌∷◌, ◌++◌, length, length-append, take, take_all, flat_map, Option, refl, sym, ap, subst, ◌∙◌, append_assoc, append-nil, arith}
use Rattle.std.specs.List.{AllByRecursion, concat}
use Rattle.std.specs.Io.KnownBytes.{Appends, Consumes}
use Rattle.std.proofs.KnownBytes.{Appends-nil, Appends-trans, Consumes-nil, Consumes-trans}
use Rattle.std.proofs.lemmas.List.Concat.{flat_map-append}
use Rattle.std.proofs.lemmas.List.Folds.{concat-append}
use Rattle.dns_text.specs.Outside.{WritesPrefix}
use Rattle.dns_text.proofs.Transfers.{prefix_after}
use Rattle.dns_lines.specs.Answers.{Answers, AreAnswers, IsAnswer}
use Rattle.dns_lines.specs.Lines.{HasLines, IsLine, Parted, ended, with_last}
use Rattle.dns_lines.specs.Pieces.{AnswersFront, AnswersPiece, IsLastAnswer}
use Rattle.dns_lines.specs.Runs.{AnswersAll, AnswersEnded, AnswersPrefix, AnswersSome}
use Rattle.dns_lines.specs.declared.command.LineCommand.{LineCommand}
use Rattle.dns_lines.proofs.AnswerLemmas.{answers_append, kept_answer}
use Rattle.dns_lines.proofs.LineLemmas.{all_append, kept_more, line_more, lines_before, lines_on, some_lines}

-- ---- within a piece

-- Some lines of the text are answered, and of the next one this has begun and is kept; the rest is not yet seen.
pub record Underway (command : LineCommand) (text old new kept rest : List ℕ) : Type 0 where
  pub lines : List (List ℕ)
  pub begun : List ℕ
  pub answers : List (List ℕ)
  pub text_is : text ≡ flat_map ended lines ++ (begun ++ rest)
  pub are_lines : AllByRecursion IsLine lines
  pub is_line : IsLine begun
  pub are : AreAnswers command lines answers
  pub added : new ≡ old ++ concat answers
  pub kept_is : kept ≡ take 131073 begun

pub underway : (command : LineCommand) (begun piece old kept : List ℕ) → IsLine begun → kept ≡ take 131073 begun → Underway command (begun ++ piece) old old kept piece
underway command begun piece old kept is kept-is = record {
  lines = [];
  begun = begun;
  answers = [];
  text_is = refl;
  are_lines = tt;
  is_line = is;
  are = tt;
  added = sym (append-nil old);
  kept_is = kept-is;
}

one_more : (lines : List (List ℕ)) (line more : List ℕ) → flat_map ended lines ++ (line ++ 10 ∷ more) ≡ flat_map ended (lines ++ line ∷ []) ++ more
one_more lines line more =
    ap (λ (l : List ℕ). flat_map ended lines ++ l) (sym (append_assoc line (10 ∷ []) more)) ∙ sym (append_assoc (flat_map ended lines) (ended line) more)
    ∙ ap (λ (l : List ℕ). (flat_map ended lines ++ l) ++ more) (sym (append-nil (ended line))) ∙ ap (λ (l : List ℕ). l ++ more) (sym (flat_map-append ended lines (line ∷ [])))

-- one more line is answered
pub underway_next : (command : LineCommand) (text old new new' kept kept' rest line more answer : List ℕ) → Underway command text old new kept rest → IsLine line → rest ≡ line ++ 10 ∷ more
    → kept' ≡ take 131073 (kept ++ line) → IsAnswer command kept' answer → new' ≡ new ++ answer → Underway command text old new' [] more
underway_next command text old new new' kept kept' rest line more answer at is rest-is kept-is answers added =
    let whole = at.begun ++ line in
    let kept-whole : kept' ≡ take 131073 whole = kept-is ∙ ap (λ (l : List ℕ). take 131073 (l ++ line)) at.kept_is ∙ kept_more 131073 at.begun line in
    record {
      lines = at.lines ++ whole ∷ [];
      begun = [];
      answers = at.answers ++ answer ∷ [];
      text_is = at.text_is ∙ ap (λ (l : List ℕ). flat_map ended at.lines ++ (at.begun ++ l)) rest-is ∙ ap (λ (l : List ℕ). flat_map ended at.lines ++ l) (sym (append_assoc at.begun line (10 ∷ more))) ∙ one_more at.lines whole more;
      are_lines = all_append IsLine at.lines (whole ∷ []) at.are_lines (line_more at.begun line at.is_line is, tt);
      is_line = tt;
      are = answers_append command at.lines (whole ∷ []) at.answers (answer ∷ []) at.are (kept_answer command whole answer (subst (λ (l : List ℕ). IsAnswer command l answer) kept-whole answers), tt);
      added = added ∙ ap (λ (l : List ℕ). l ++ answer) at.added ∙ append_assoc old (concat at.answers) answer
          ∙ ap (λ (l : List ℕ). old ++ (concat at.answers ++ l)) (sym (append-nil answer)) ∙ ap (λ (l : List ℕ). old ++ l) (sym (concat-append at.answers (answer ∷ [])));
      kept_is = sym (take_all 131073 [] (omega arith));
    }

-- no LF comes in the rest
pub underway_done : (command : LineCommand) (text old new kept kept' rest : List ℕ) → Underway command text old new kept rest → IsLine rest → kept' ≡ take 131073 (kept ++ rest) → AnswersPiece command text old new kept'
underway_done command text old new kept kept' rest at is kept-is = record {
  lines = at.lines;
  rest = at.begun ++ rest;
  answers = at.answers;
  parted = record { text_is = at.text_is; are_lines = at.are_lines; is_line = line_more at.begun rest at.is_line is };
  are = at.are;
  added = at.added;
  kept_is = kept-is ∙ ap (λ (l : List ℕ). take 131073 (l ++ rest)) at.kept_is ∙ kept_more 131073 at.begun rest;
}

pub underway_front : (command : LineCommand) (text old new kept rest : List ℕ) → Underway command text old new kept rest → AnswersFront command text old new
underway_front command text old new kept rest at = record {
  lines = at.lines;
  more = at.begun ++ rest;
  answers = at.answers;
  text_is = at.text_is;
  are_lines = at.are_lines;
  are = at.are;
  added = at.added;
}

pub piece_front : (command : LineCommand) (text old new kept : List ℕ) → AnswersPiece command text old new kept → AnswersFront command text old new
piece_front command text old new kept at = record {
  lines = at.lines;
  more = at.rest;
  answers = at.answers;
  text_is = at.parted.text_is;
  are_lines = at.parted.are_lines;
  are = at.are;
  added = at.added;
}

-- ---- after the last LF

-- nothing is kept of an empty line alone
none_kept : (k : ℕ) (rest : List ℕ) → 0 < k → [] ≡ take k rest → rest ≡ []
none_kept k [] some none = refl
none_kept zero (b ∷ rest) some none = absurd (omega (arith, some))
none_kept (suc k) (b ∷ rest) some none = absurd cc

pub no_last : (command : LineCommand) (rest answer : List ℕ) → [] ≡ take 131073 rest → answer ≡ [] → IsLastAnswer command rest answer
no_last command rest answer none is = subst (λ (l : List ℕ). IsLastAnswer command l answer) (sym (none_kept 131073 rest (omega arith) none)) is

pub last_is : (command : LineCommand) (rest kept answer : List ℕ) → (kept ≡ [] → ⊥) → kept ≡ take 131073 rest → IsAnswer command kept answer → IsLastAnswer command rest answer
last_is command [] kept answer some kept-is is = absurd (some (kept-is ∙ take_all 131073 [] (omega arith)))
last_is command (b ∷ rest) kept answer some kept-is is = kept_answer command (b ∷ rest) answer (subst (λ (l : List ℕ). IsAnswer command l answer) kept-is is)

-- the last answer after the others, as answers to all lines
all_answers : (command : LineCommand) (text : List ℕ) (lines : List (List ℕ)) (rest : List ℕ) (answers : List (List ℕ)) (last : List ℕ) → Parted text lines rest → AreAnswers command lines answers → IsLastAnswer command rest last
    → Answers command text (concat answers ++ last)
all_answers command text lines [] answers last parted are is = record {
  lines = lines;
  answers = answers;
  has = record { before = lines; rest = []; parted = parted; lines_are = refl };
  are = are;
  written_is = ap (λ (l : List ℕ). concat answers ++ l) is ∙ append-nil (concat answers);
}
all_answers command text lines (b ∷ rest) answers last parted are is = record {
  lines = lines ++ (b ∷ rest) ∷ [];
  answers = answers ++ last ∷ [];
  has = record { before = lines; rest = b ∷ rest; parted = parted; lines_are = refl };
  are = answers_append command lines ((b ∷ rest) ∷ []) answers (last ∷ []) are (is, tt);
  written_is = ap (λ (l : List ℕ). concat answers ++ l) (sym (append-nil last)) ∙ sym (concat-append answers (last ∷ []));
}

-- ---- from piece to piece

-- The lines of the text so far that an LF ends are answered, and of the next one this is kept.
pub record Progress (command : LineCommand) (left left' old new : Option (List ℕ)) (kept : List ℕ) : Type 0 where
  pub text : List ℕ
  pub lines : List (List ℕ)
  pub rest : List ℕ
  pub answers : List (List ℕ)
  pub read : Consumes left left' text
  pub parted : Parted text lines rest
  pub are : AreAnswers command lines answers
  pub written : Appends old new (concat answers)
  pub kept_is : kept ≡ take 131073 rest

pub progress : (command : LineCommand) (left old : Option (List ℕ)) (kept : List ℕ) → kept ≡ [] → Progress command left left old old kept
progress command left old kept none = record {
  text = [];
  lines = [];
  rest = [];
  answers = [];
  read = Consumes-nil left;
  parted = record { text_is = refl; are_lines = tt; is_line = tt };
  are = tt;
  written = Appends-nil old;
  kept_is = none ∙ sym (take_all 131073 [] (omega arith));
}

-- the answers to a piece, where it goes on from the rest of a text
after_rest : (text : List ℕ) (lines : List (List ℕ)) (rest piece : List ℕ) → Parted text lines rest → text ++ piece ≡ flat_map ended lines ++ (rest ++ piece)
after_rest text lines rest piece parted = ap (λ (l : List ℕ). l ++ piece) parted.text_is ∙ append_assoc (flat_map ended lines) rest piece

written_after : (old mid new : Option (List ℕ)) (answers more : List (List ℕ)) (added : List ℕ) → Appends old mid (concat answers) → added ≡ concat more → Appends mid new added → Appends old new (concat (answers ++ more))
written_after old mid new answers more added first is second =
    subst (Appends old new) (ap (λ (l : List ℕ). concat answers ++ l) is ∙ sym (concat-append answers more)) (Appends-trans old mid new (concat answers) added first second)

prefix_written_after : (old mid new : Option (List ℕ)) (answers more : List (List ℕ)) (added : List ℕ) → Appends old mid (concat answers) → added ≡ concat more → WritesPrefix mid new added → WritesPrefix old new (concat (answers ++ more))
prefix_written_after old mid new answers more added first is second =
    subst (WritesPrefix old new) (ap (λ (l : List ℕ). concat answers ++ l) is ∙ sym (concat-append answers more)) (prefix_after old mid new (concat answers) added first second)

module _ (command : LineCommand) (left left' left'' old mid new : Option (List ℕ)) (kept : List ℕ) (so-far : Progress command left left' old mid kept) where
  -- the text so far
  pub ended_so_far : AnswersEnded command so-far.text old mid
  ended_so_far = record { lines = so-far.lines; rest = so-far.rest; answers = so-far.answers; parted = so-far.parted; are = so-far.are; written = so-far.written }

  module _ (piece added : List ℕ) (read : Consumes left' left'' piece) where
    pub piece_read : Consumes left left'' (so-far.text ++ piece)
    piece_read = Consumes-trans left left' left'' so-far.text piece so-far.read read

    pub progress_more : (kept' : List ℕ) → ((begun : List ℕ) → IsLine begun → kept ≡ take 131073 begun → AnswersPiece command (begun ++ piece) [] added kept') → Appends mid new added → Progress command left left'' old new kept'
    progress_more kept' answered written =
        let at = answered so-far.rest so-far.parted.is_line so-far.kept_is in
        record {
          text = so-far.text ++ piece;
          lines = so-far.lines ++ at.lines;
          rest = at.rest;
          answers = so-far.answers ++ at.answers;
          read = piece_read;
          parted = subst (λ (l : List ℕ). Parted l (so-far.lines ++ at.lines) at.rest) (sym (after_rest so-far.text so-far.lines so-far.rest piece so-far.parted)) (lines_before so-far.lines (so-far.rest ++ piece) at.lines at.rest so-far.parted.are_lines at.parted);
          are = answers_append command so-far.lines at.lines so-far.answers at.answers so-far.are at.are;
          written = written_after old mid new so-far.answers at.answers added so-far.written at.added written;
          kept_is = at.kept_is;
        }

    -- one read more
    pub progress_next : (kept' : List ℕ) → ((begun : List ℕ) → IsLine begun → kept ≡ take 131073 begun → AnswersPiece command (begun ++ piece) [] added kept') → Appends mid new added → (reads : ℕ) → reads ≤ length so-far.text → 0 < length piece
        → (next : Progress command left left'' old new kept') × (reads + 1 ≤ length next.text)
    unfolding progress_more
    progress_next kept' answered written reads few some = (progress_more kept' answered written, omega (arith, few, some, length-append so-far.text piece))

    module _ (front : (begun : List ℕ) → IsLine begun → kept ≡ take 131073 begun → AnswersFront command (begun ++ piece) [] added) where
      at : AnswersFront command (so-far.rest ++ piece) [] added
      at = front so-far.rest so-far.parted.is_line so-far.kept_is

      others : (lines : List (List ℕ)) × HasLines at.more lines
      others = some_lines at.more

      has : HasLines (so-far.text ++ piece) ((so-far.lines ++ at.lines) ++ others.0)
      has =
          let joined : so-far.text ++ piece ≡ flat_map ended (so-far.lines ++ at.lines) ++ at.more =
          after_rest so-far.text so-far.lines so-far.rest piece so-far.parted ∙ ap (λ (l : List ℕ). flat_map ended so-far.lines ++ l) at.text_is
          ∙ sym (append_assoc (flat_map ended so-far.lines) (flat_map ended at.lines) at.more) ∙ ap (λ (l : List ℕ). l ++ at.more) (sym (flat_map-append ended so-far.lines at.lines)) in
          subst (λ (l : List ℕ). HasLines l ((so-far.lines ++ at.lines) ++ others.0)) (sym joined)
          (lines_on (so-far.lines ++ at.lines) at.more others.0 (all_append IsLine so-far.lines at.lines so-far.parted.are_lines at.are_lines) others.1)

      pub stopped_some : Appends mid new added → AnswersSome command (so-far.text ++ piece) old new
      stopped_some written = record {
        lines = so-far.lines ++ at.lines;
        others = others.0;
        answers = so-far.answers ++ at.answers;
        has = has;
        are = answers_append command so-far.lines at.lines so-far.answers at.answers so-far.are at.are;
        written = written_after old mid new so-far.answers at.answers added so-far.written at.added written;
      }

      pub stopped_prefix : WritesPrefix mid new added → AnswersPrefix command (so-far.text ++ piece) old new
      stopped_prefix written = record {
        lines = so-far.lines ++ at.lines;
        others = others.0;
        answers = so-far.answers ++ at.answers;
        has = has;
        are = answers_append command so-far.lines at.lines so-far.answers at.answers so-far.are at.are;
        written = prefix_written_after old mid new so-far.answers at.answers added so-far.written at.added written;
      }

  -- ---- the end of the text

  pub ended_all : (last : List ℕ) → IsLastAnswer command so-far.rest last → Appends mid new last → AnswersAll command so-far.text old new
  ended_all last is written = (
    concat so-far.answers ++ last,
    all_answers command so-far.text so-far.lines so-far.rest so-far.answers last so-far.parted so-far.are is,
    Appends-trans old mid new (concat so-far.answers) last so-far.written written,
  )

  ended_prefix_on : (last : List ℕ) → Answers command so-far.text (concat so-far.answers ++ last) → WritesPrefix mid new last → AnswersPrefix command so-far.text old new
  ended_prefix_on last all written = record {
    lines = all.lines;
    others = [];
    answers = all.answers;
    has = subst (HasLines so-far.text) (sym (append-nil all.lines)) all.has;
    are = all.are;
    written = subst (WritesPrefix old new) all.written_is (prefix_after old mid new (concat so-far.answers) last so-far.written written);
  }

  pub ended_prefix : (last : List ℕ) → IsLastAnswer command so-far.rest last → WritesPrefix mid new last → AnswersPrefix command so-far.text old new
  ended_prefix last is written = ended_prefix_on last (all_answers command so-far.text so-far.lines so-far.rest so-far.answers last so-far.parted so-far.are is) written

  last_lines : (rest : List ℕ) → Parted so-far.text so-far.lines rest → HasLines so-far.text (so-far.lines ++ with_last [] rest)
  last_lines [] parted = record { before = so-far.lines; rest = []; parted = parted; lines_are = append-nil so-far.lines }
  last_lines (b ∷ rest) parted = record { before = so-far.lines; rest = b ∷ rest; parted = parted; lines_are = refl }

  pub ended_some : Appends mid new [] → AnswersSome command so-far.text old new
  ended_some written = record {
    lines = so-far.lines;
    others = with_last [] so-far.rest;
    answers = so-far.answers;
    has = last_lines so-far.rest so-far.parted;
    are = so-far.are;
    written = subst (Appends old new) (append-nil (concat so-far.answers)) (Appends-trans old mid new (concat so-far.answers) [] so-far.written written);
  }
