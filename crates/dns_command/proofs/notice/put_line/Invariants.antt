use Rattle.std.proofs.Common.{◌≡◌, ◌++◌, take, flat_map}
use Rattle.std.specs.Io.KnownBytes.{Appends}
use Rattle.dns_command.specs.Notes.{spaced}
use Rattle.dns_command.proofs.notice.put_line.Given as goal

-- the word and the numbers so far have been written, and nothing has failed
abbrev pub invariant-loop-number : goal.invariant-loop-number
invariant-loop-number g l = record {
  reported : Appends (g.K.Sink.written l.fn.sink) (g.K.Sink.written l.sink) (l.word ++ flat_map spaced (take l.number-index l.numbers));
  steady : g.K.Sink.faults l.sink ≡ g.K.Sink.faults l.fn.sink;
}
