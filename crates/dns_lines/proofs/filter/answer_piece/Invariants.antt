use Rattle.std.proofs.Common.{◌≡◌, ◌≤◌, List, ℕ, ◌++◌, length, take, vec_len}
use Rattle.dns_lines.specs.Lines.{IsLine}
use Rattle.dns_lines.proofs.PieceLemmas.{Underway}
use Rattle.dns_lines.proofs.filter.answer_piece.Given as goal

-- the lines before the rest of the piece are answered, and there is room for what is kept of the next one
abbrev pub invariant-loop-end : goal.invariant-loop-end
invariant-loop-end l = record {
  answered : (begun : List ℕ) → IsLine begun → l.initial.line.items ≡ take 131073 begun → Underway l.command (begun ++ l.piece) l.initial.answers.items l.answers.items l.line.items l.rest;
  room : vec_len l.line ≤ 131073;
}

abbrev pub decreases-loop-end : goal.decreases-loop-end
decreases-loop-end l = length l.rest
