-- A text that is put is the text that a command prints.
use Rattle.std.proofs.Common.{◌≡◌, ℕ, List, Option, None, Vec, Global, Result, Ok, Err, sym, ap, subst}
use Rattle.std.specs.Prelude.{IfOk, IfErr, OnOk}
use Rattle.dns_text.specs.declared.io.traits.Sink.{Ghosts as SinkGhosts}
use Rattle.dns_command.specs.Endings.{Ending, WritesAs}
use Rattle.dns_command.specs.Endings.Ending.{Printed, NoCommand, TextTooLong, TextRefused, SourceFailed, SinkFailed, NoMemory}
use Rattle.dns_command.specs.Outcomes.{PutsFor, RefusesFor, StopsFor, put_ending, put_error}
use Rattle.dns_command.specs.declared.outcome.PrintError.{PrintError}
use Rattle.dns_command.specs.declared.outcome.PrintError.TheVariants as print
use Rattle.dns_command.specs.declared.outcome.PutError.{PutError}
use Rattle.dns_command.specs.declared.outcome.PutError.TheVariants as put

-- a text that is written is one that is printed
pub writes_more : (P Q : List ℕ → Type 0) (a b : Option (List ℕ)) (ending : Ending) → ((t : List ℕ) → P t → Q t) → WritesAs P a b ending → WritesAs Q a b ending
writes_more P Q a b Printed more (t, is, appends) = (t, more t is, appends)
writes_more P Q a b SinkFailed more (t, is, prefix) = (t, more t is, prefix)
writes_more P Q a b NoCommand more w = tt
writes_more P Q a b TextTooLong more w = tt
writes_more P Q a b TextRefused more w = tt
writes_more P Q a b SourceFailed more w = tt
writes_more P Q a b NoMemory more w = tt

module _ {K R : Type 0} (k : SinkGhosts K) (refusal : Option R) (Prints : List ℕ → Type 0) (sink sink' : K) where
  -- of a text that is not refused
  accepted : (result : Result (Unit {0}) (PutError R)) → refusal ≡ None → OnOk result (refusal ≡ None)
  accepted (Ok u) is = is
  accepted (Err e) is = tt

  stops : (result : Result (Unit {0}) (PutError R)) → refusal ≡ None → IfErr result (StopsFor {R = R} None) → IfErr result (StopsFor refusal)
  stops (Ok u) is h = tt
  stops (Err (put.Refused r)) is h = absurd (let clash = h in cc)
  stops (Err put.WriteFault) is h = is
  stops (Err put.Memory) is h = tt

  put_text : (text : List ℕ) (result : Result (Unit {0}) (PutError R)) → refusal ≡ None → Prints text → PutsFor {R = R} k None (λ t. t ≡ text) sink sink' result → PutsFor k refusal Prints sink sink' result
  put_text text result is prints h = record {
    accepted = accepted result is;
    refused = stops result is h.refused;
    written = writes_more (λ t. t ≡ text) Prints (k.written sink) (k.written sink') (put_ending result) (λ t e. subst Prints (sym e) prints) h.written;
    unwritten = h.unwritten;
    write_fault = h.write_fault;
    write_steady = h.write_steady;
    flushed = h.flushed;
  }

  -- of a text that is refused, or for which there is no memory
  put_none : (error : PrintError R) → RefusesFor refusal error → sink' ≡ sink → PutsFor k refusal Prints sink sink' (Err (put_error error))
  put_none (print.Refused r) refuses same = record {
    accepted = tt;
    refused = refuses;
    written = tt;
    unwritten = λ _. same;
    write_fault = λ e. absurd cc;
    write_steady = λ _. ap k.faults same;
    flushed = tt;
  }
  put_none print.Memory refuses same = record {
    accepted = tt;
    refused = tt;
    written = tt;
    unwritten = λ _. same;
    write_fault = λ e. absurd cc;
    write_steady = λ _. ap k.faults same;
    flushed = tt;
  }

  pub puts : (printed : Result (Vec ℕ Global) (PrintError R)) (result : Result (Unit {0}) (PutError R)) → IfOk printed (λ text. refusal ≡ None) → IfOk printed (λ text. Prints text.items) → IfErr printed (RefusesFor refusal)
      → IfOk printed (λ text. PutsFor {R = R} k None (λ t. t ≡ text.items) sink sink' result) → IfErr printed (λ error. (result ≡ Err (put_error error)) × (sink' ≡ sink)) → PutsFor k refusal Prints sink sink' result
  puts (Ok text) result is prints refuses put none = put_text text.items result is prints put
  puts (Err error) result is prints refuses put none = subst (PutsFor k refusal Prints sink sink') (sym none.0) (put_none error refuses none.1)
