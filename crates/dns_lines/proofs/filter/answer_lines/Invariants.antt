use Rattle.std.proofs.Common.{◌≡◌, ◌≤◌, [], length, vec_len}
use Rattle.dns_lines.specs.Runs.{Settled}
use Rattle.dns_lines.proofs.PieceLemmas.{Progress}
use Rattle.dns_lines.proofs.filter.answer_lines.Given as goal

-- the lines that have ended are answered, one octet at least has come at each read, nothing has failed, and all that was written has arrived
abbrev pub invariant-loop-read : goal.invariant-loop-read
invariant-loop-read g l = record {
  progress : (so-far : Progress l.command (g.S.Source.left l.initial.source) (g.S.Source.left l.source) (g.K.Sink.written l.initial.sink) (g.K.Sink.written l.sink) l.line.items) × (l._read ≤ length so-far.text);
  none : l.answers.items ≡ [];
  kept : vec_len l.line ≤ 131073;
  room : length l.piece ≡ 65536;
  read_steady : g.S.Source.faults l.source ≡ g.S.Source.faults l.initial.source;
  write_steady : g.K.Sink.faults l.sink ≡ g.K.Sink.faults l.initial.sink;
  settled : Settled g.K.Sink l.initial.sink l.sink;
}
