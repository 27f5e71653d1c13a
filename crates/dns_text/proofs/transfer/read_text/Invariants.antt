use Rattle.std.proofs.Common.{◌≡◌, ◌≤◌, ◌-◌, length, vec_len}
use Rattle.std.specs.Io.KnownBytes.{Consumes}
use Rattle.dns_text.proofs.transfer.read_text.Given as goal

-- what has been read is what the source has lost, within the limit, there is room for a piece, and nothing has failed
abbrev pub invariant-loop-text : goal.invariant-loop-text
invariant-loop-text g l = record {
  reported : Consumes (g.S.Source.left l.initial.source) (g.S.Source.left l.source) l.text.items;
  within : vec_len l.text ≤ l.limit;
  room : length l.buffer ≡ 4096;
  steady : g.S.Source.faults l.source ≡ g.S.Source.faults l.initial.source;
}

abbrev pub decreases-loop-text : goal.decreases-loop-text
decreases-loop-text g l = l.limit - vec_len l.text
