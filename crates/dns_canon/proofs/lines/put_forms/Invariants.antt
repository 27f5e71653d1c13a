use Rattle.std.proofs.Common.{◌≡◌, ◌++◌, List, ℕ, map, take, IfSome}
use Rattle.std.specs.Prelude.{IsSome}
use Rattle.std.specs.Io.KnownBytes.{Appends}
use Rattle.dns_text.specs.Hexadecimal.{lines}
use Rattle.dns_message.specs.Order.{octets_of_key}
use Rattle.dns_canon.proofs.lines.put_forms.Given as goal

-- the sink has got a prefix of the lines so far, the buffer holds what is after it, the sink still reports its flag, and nothing has failed
abbrev pub invariant-loop-form : goal.invariant-loop-form
invariant-loop-form g l = record {
  reported : (sent : List ℕ) × Appends (g.K.Sink.written l.initial.sink) (g.K.Sink.written l.sink) sent × (sent ++ l.buffer ≡ lines (map octets_of_key (take l.form-index l.forms)));
  flag : IfSome (g.K.Sink.is_flushed l.initial.sink) (λ _. IsSome (g.K.Sink.is_flushed l.sink));
  steady : g.K.Sink.faults l.sink ≡ g.K.Sink.faults l.initial.sink;
}
