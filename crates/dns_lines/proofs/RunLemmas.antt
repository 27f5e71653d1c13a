-- How a run over lines ends.
use Rattle.std.proofs.Common.{◌≡◌, ◌≢◌, ℕ, ◌-◌, ◌^◌, ◌≤◌, Bool, true, false, List, [], ◌++◌, length, take, take_all, Option, Some, None, IfSome, IsSome, Result, Ok, Err, is_err, OnOk, OnErr, inl, inr, refl, sym, ap, subst, ◌∙◌, append-nil, arith}
use Rattle.std.specs.Io.KnownBytes.{Appends, Consumes, IsAtEnd}
use Rattle.std.proofs.KnownBytes.{Appends-nil, Consumes-trans}
use Rattle.dns_text.specs.Outside.{BecomesFlag, HasCause, Puts, Rose, WritesPrefix}
use Rattle.dns_text.specs.declared.io.traits.Source.{Ghosts as SourceGhosts}
use Rattle.dns_text.specs.declared.io.traits.Sink.{Ghosts as SinkGhosts}
use Rattle.dns_command.specs.Endings.{Reported}
use Rattle.dns_lines.specs.Lines.{IsLine}
use Rattle.dns_lines.specs.Pieces.{AnswersFront, AnswersPiece, EndsWith}
use Rattle.dns_lines.specs.Runs.{AnswersAll, AnswersEnded, AnswersPrefix, AnswersSome, Ended, Settled}
use Rattle.dns_lines.specs.declared.command.LineCommand.{LineCommand}
use Rattle.dns_lines.specs.declared.status.LinesStatus.{LinesStatus}
use Rattle.dns_lines.specs.declared.status.LinesStatus.TheVariants.{Done, TooLong, Usage, ReadFault, WriteFault, Memory}
use Rattle.dns_lines.proofs.PieceLemmas.{Progress, ended_all, ended_prefix, ended_some, piece_front, progress}

-- ---- what a result says

pub puts_failed : {E : Type 0} (a b : Option (List ℕ)) (text : List ℕ) (r : Result (Unit {0}) E) → is_err r ≡ true → Puts a b text r → WritesPrefix a b text
puts_failed a b text (Ok done) e puts = absurd cc
puts_failed a b text (Err error) e puts = puts

pub puts_done : {E : Type 0} (a b : Option (List ℕ)) (text : List ℕ) (r : Result (Unit {0}) E) → is_err r ≡ false → Puts a b text r → Appends a b text
puts_done a b text (Ok done) e puts = puts
puts_done a b text (Err error) e puts = absurd cc

pub cause_failed : {T E : Type 0} (before now : ℕ) (r : Result T E) → is_err r ≡ true → HasCause before now r → Rose before now
cause_failed before now (Ok value) e cause = absurd cc
cause_failed before now (Err error) e cause = cause.failed

pub cause_done : {T E : Type 0} (before now : ℕ) (r : Result T E) → is_err r ≡ false → HasCause before now r → now ≡ before
cause_done before now (Ok value) e cause = cause.steady
cause_done before now (Err error) e cause = absurd cc

pub holds_if_ok : {T E P : Type 0} (r : Result T E) → is_err r ≡ false → OnOk r P → P
holds_if_ok (Ok value) e holds = holds
holds_if_ok (Err error) e holds = absurd cc

pub holds_if_err : {T E P : Type 0} (r : Result T E) → is_err r ≡ true → OnErr r P → P
holds_if_err (Ok value) e holds = absurd cc
holds_if_err (Err error) e holds = holds

-- what the answers to the lines of a piece are, before which there were none
abbrev pub Pieces : LineCommand → List ℕ → List ℕ → List ℕ → List ℕ → List ℕ → Type 0
Pieces command kept piece old new kept' = (begun : List ℕ) → IsLine begun → kept ≡ take 131073 begun → AnswersPiece command (begun ++ piece) old new kept'

abbrev pub Fronts : LineCommand → List ℕ → List ℕ → List ℕ → List ℕ → Type 0
Fronts command kept piece old new = (begun : List ℕ) → IsLine begun → kept ≡ take 131073 begun → AnswersFront command (begun ++ piece) old new

pub pieces_after : (command : LineCommand) (kept piece old new kept' : List ℕ) → old ≡ [] → Pieces command kept piece old new kept' → Pieces command kept piece [] new kept'
pieces_after command kept piece old new kept' none pieces = subst (λ (l : List ℕ). Pieces command kept piece l new kept') none pieces

pub fronts_after : (command : LineCommand) (kept piece old new : List ℕ) → old ≡ [] → Fronts command kept piece old new → Fronts command kept piece [] new
fronts_after command kept piece old new none fronts = subst (λ (l : List ℕ). Fronts command kept piece l new) none fronts

pub either_front : {T E : Type 0} (command : LineCommand) (kept piece old new kept' : List ℕ) (r : Result T E) → OnOk r (Pieces command kept piece old new kept') → OnErr r (Fronts command kept piece old new) → Fronts command kept piece old new
either_front command kept piece old new kept' (Ok value) pieces fronts = λ begun is kept-is. piece_front command (begun ++ piece) old new kept' (pieces begun is kept-is)
either_front command kept piece old new kept' (Err error) pieces fronts = fronts

-- ---- the flag of a sink

flag_known : {K : Type 0} (k : SinkGhosts K) (sink sink' : K) → Settled k sink sink' → IfSome (k.is_flushed sink) (λ _. IsSome (k.is_flushed sink'))
flag_known k sink sink' settled = elim settled [ inl becomes ↦ by_flag (k.is_flushed sink) (k.is_flushed sink') becomes | inr same ↦ subst (λ x. IfSome (k.is_flushed sink) (λ _. IsSome (k.is_flushed x))) (sym same) (flag_same (k.is_flushed sink)) ] where
  by_flag : (a b : Option Bool) → BecomesFlag a b true → IfSome a (λ _. IsSome b)
  by_flag None b becomes = tt
  by_flag (Some x) b becomes = rw becomes refl

  flag_same : (a : Option Bool) → IfSome a (λ _. IsSome a)
  flag_same None = tt
  flag_same (Some x) = refl

flag_becomes : (a b c : Option Bool) → IfSome a (λ _. IsSome b) → BecomesFlag b c true → BecomesFlag a c true
flag_becomes None b c known becomes = tt
flag_becomes (Some x) None c known becomes = absurd cc
flag_becomes (Some x) (Some y) c known becomes = becomes

-- what is flushed after what had arrived, or after nothing
pub flushed_after : {K : Type 0} (k : SinkGhosts K) (sink mid sink' : K) → Settled k sink mid → BecomesFlag (k.is_flushed mid) (k.is_flushed sink') true → BecomesFlag (k.is_flushed sink) (k.is_flushed sink') true
flushed_after k sink mid sink' settled becomes = flag_becomes (k.is_flushed sink) (k.is_flushed mid) (k.is_flushed sink') (flag_known k sink mid settled) becomes

-- ---- notes

-- the line for a status is noted
pub reported : {N E : Type 0} (n : SinkGhosts N) (note : List ℕ) (notes notes' : N) (status : LinesStatus) (r : Result (Unit {0}) E) → (status ≡ Done → notes' ≡ notes) → Puts (n.written notes) (n.written notes') note r
    → HasCause (n.faults notes) (n.faults notes') r → Reported n Done note notes notes' status
reported n note notes notes' status (Ok done) quiet puts cause = record {
  quiet = quiet;
  reported = (length note, omega arith, subst (Appends (n.written notes) (n.written notes')) (sym (take_all (length note) note (omega arith))) puts);
  reported_whole = λ calm. puts;
}
reported n note notes notes' status (Err e) quiet puts cause = record { quiet = quiet; reported = puts; reported_whole = λ calm. absurd (calm cause.failed) }

-- ---- the end of a run

module _ {S K : Type 0} (s : SourceGhosts S) (k : SinkGhosts K) (command : LineCommand) (source source' : S) (sink sink' : K) (text : List ℕ) (read : Consumes (s.left source) (s.left source') text) where
  pub out_of_memory : AnswersSome command text (k.written sink) (k.written sink') → s.faults source' ≡ s.faults source → k.faults sink' ≡ k.faults sink → Settled k sink sink' → Ended s k command source source' sink sink' Memory
  out_of_memory written calm still settled = record {
    text = text;
    read = read;
    written = written;
    emptied = λ e. absurd cc;
    flushed = λ e. absurd cc;
    settled = λ other. settled;
    read_fault = λ e. absurd cc;
    read_steady = λ other. calm;
    write_fault = λ e. absurd cc;
    write_steady = λ other. still;
    too_long = λ e. absurd cc;
    command_is = λ e. absurd cc;
  }

  pub source_failed : AnswersEnded command text (k.written sink) (k.written sink') → Rose (s.faults source) (s.faults source') → k.faults sink' ≡ k.faults sink → Settled k sink sink' → Ended s k command source source' sink sink' ReadFault
  source_failed written rose still settled = record {
    text = text;
    read = read;
    written = written;
    emptied = λ e. absurd cc;
    flushed = λ e. absurd cc;
    settled = λ other. settled;
    read_fault = λ e. rose;
    read_steady = λ other. absurd (other refl);
    write_fault = λ e. absurd cc;
    write_steady = λ other. still;
    too_long = λ e. absurd cc;
    command_is = λ e. absurd cc;
  }

  pub sink_failed : AnswersPrefix command text (k.written sink) (k.written sink') → s.faults source' ≡ s.faults source → Rose (k.faults sink) (k.faults sink') → Ended s k command source source' sink sink' WriteFault
  sink_failed written calm rose = record {
    text = text;
    read = read;
    written = written;
    emptied = λ e. absurd cc;
    flushed = λ e. absurd cc;
    settled = λ other. absurd (other refl);
    read_fault = λ e. absurd cc;
    read_steady = λ other. calm;
    write_fault = λ e. rose;
    write_steady = λ other. absurd (other refl);
    too_long = λ e. absurd cc;
    command_is = λ e. absurd cc;
  }

  pub never_ended : AnswersEnded command text (k.written sink) (k.written sink') → s.faults source' ≡ s.faults source → k.faults sink' ≡ k.faults sink → 2 ^ 64 - 1 ≤ length text → Settled k sink sink' → Ended s k command source source' sink sink' TooLong
  never_ended written calm still long settled = record {
    text = text;
    read = read;
    written = written;
    emptied = λ e. absurd cc;
    flushed = λ e. absurd cc;
    settled = λ other. settled;
    read_fault = λ e. absurd cc;
    read_steady = λ other. calm;
    write_fault = λ e. absurd cc;
    write_steady = λ other. still;
    too_long = λ e. long;
    command_is = λ e. absurd cc;
  }

  pub all_read : AnswersAll command text (k.written sink) (k.written sink') → s.faults source' ≡ s.faults source → k.faults sink' ≡ k.faults sink → IsAtEnd (s.left source') → BecomesFlag (k.is_flushed sink) (k.is_flushed sink') true
      → Ended s k command source source' sink sink' Done
  all_read written calm still end flag = record {
    text = text;
    read = read;
    written = written;
    emptied = λ e. end;
    flushed = λ e. flag;
    settled = λ other. inl flag;
    read_fault = λ e. absurd cc;
    read_steady = λ other. calm;
    write_fault = λ e. absurd cc;
    write_steady = λ other. still;
    too_long = λ e. absurd cc;
    command_is = λ e. absurd cc;
  }

-- nothing has been read or written yet
pub nothing_begun : {S K : Type 0} (s : SourceGhosts S) (k : SinkGhosts K) (command : LineCommand) (source : S) (sink : K) → Ended s k command source source sink sink Memory
nothing_begun s k command source sink =
    let none = progress command (s.left source) (k.written sink) [] refl in
    out_of_memory s k command source source sink sink none.text none.read (ended_some command (s.left source) (s.left source) (s.left source) (k.written sink) (k.written sink) (k.written sink) [] none (Appends-nil (k.written sink))) refl refl (inr refl)

module _ {S K : Type 0} (s : SourceGhosts S) (k : SinkGhosts K) (command : LineCommand) (source before source' : S) (sink mid sink' : K) (kept : List ℕ)
    (so-far : Progress command (s.left source) (s.left before) (k.written sink) (k.written mid) kept) where
  -- the last read has given nothing
  pub ends : (status : LinesStatus) → Consumes (s.left source) (s.left source') so-far.text → IsAtEnd (s.left source') → s.faults source' ≡ s.faults source → k.faults mid ≡ k.faults sink → Settled k sink mid
      → EndsWith command so-far.rest (k.written mid) (k.written sink') status → (status ≡ WriteFault → Rose (k.faults mid) (k.faults sink')) → ((status ≢ WriteFault) → k.faults sink' ≡ k.faults mid)
      → (status ≡ Done → BecomesFlag (k.is_flushed mid) (k.is_flushed sink') true) → (status ≡ Memory → sink' ≡ mid) → Ended s k command source source' sink sink' status
  ends Done read end calm still settled ended rose steady flushed unchanged =
      all_read s k command source source' sink sink' so-far.text read
      (ended_all command (s.left source) (s.left before) (s.left source') (k.written sink) (k.written mid) (k.written sink') kept so-far ended.0 ended.1 ended.2)
      calm (steady (λ e. absurd cc) ∙ still) end (flushed_after k sink mid sink' settled (flushed refl))
  ends WriteFault read end calm still settled ended rose steady flushed unchanged =
      sink_failed s k command source source' sink sink' so-far.text read
      (ended_prefix command (s.left source) (s.left before) (s.left source') (k.written sink) (k.written mid) (k.written sink') kept so-far ended.0 ended.1 ended.2)
      calm (subst (λ (n : ℕ). Rose n (k.faults sink')) still (rose refl))
  ends Memory read end calm still settled ended rose steady flushed unchanged =
      out_of_memory s k command source source' sink sink' so-far.text read
      (ended_some command (s.left source) (s.left before) (s.left source') (k.written sink) (k.written mid) (k.written sink') kept so-far ended)
      calm (steady (λ e. absurd cc) ∙ still) (subst (Settled k sink) (sym (unchanged refl)) settled)
  ends TooLong read end calm still settled ended rose steady flushed unchanged = absurd ended
  ends Usage read end calm still settled ended rose steady flushed unchanged = absurd ended
  ends ReadFault read end calm still settled ended rose steady flushed unchanged = absurd ended

  -- a read of no octets
  pub read_nothing : (count : ℕ) (piece : List ℕ) → count ≡ 0 → Consumes (s.left before) (s.left source') (take count piece) → Consumes (s.left source) (s.left source') so-far.text
  read_nothing count piece zero-is read =
      let none : take count piece ≡ [] = ap (λ (n : ℕ). take n piece) zero-is in
      subst (Consumes (s.left source) (s.left source')) (append-nil so-far.text)
      (Consumes-trans (s.left source) (s.left before) (s.left source') so-far.text [] so-far.read (subst (Consumes (s.left before) (s.left source')) none read))
