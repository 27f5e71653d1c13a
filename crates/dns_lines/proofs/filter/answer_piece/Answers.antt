use Rattle.std.proofs.Common.{List, ap, arith, length, length-take, subst, sym, ◌++◌, ℕ}
use Rattle.dns_lines.specs.Answers.{IsAnswer}
use Rattle.dns_lines.proofs.LineLemmas.{ok_then}
use Rattle.dns_lines.proofs.PieceLemmas.{Underway, underway, underway_done, underway_next}
use Rattle.dns_lines.proofs.filter.answer_piece.Goals as goal

pub loop-end-init : goal.loop-end-init
loop-end-init c = record {
  answered = λ begun is kept. underway c.args.command.now begun c.args.piece.now c.args.answers.now.items c.args.line.now.items is kept;
  room = c.requires;
}

pub loop-end-preserved : goal.loop-end-preserved
loop-end-preserved c =
    let found = c.in_ok-add_answer.ensures.added in
    let answer : IsAnswer c.args.command.now c.extend_line.new.line.items found.0 = subst (λ (l : List ℕ). IsAnswer c.args.command.now l found.0) c.deref.ensures.value found.1 in
    record {
      answered = λ begun is kept.
          subst (λ (l : List ℕ). Underway c.args.command.now (begun ++ c.args.piece.now) c.args.answers.now.items c.add_answer.new.answers.items l c.in-Some.more.now) (sym c.clear.ensures.items)
          (underway_next c.args.command.now (begun ++ c.args.piece.now) c.args.answers.now.items c.loop-end.answers.items c.add_answer.new.answers.items c.loop-end.line.items c.extend_line.new.line.items c.loop-end.rest.now c.in-Some.end.now c.in-Some.more.now
          found.0 (c.loop-end.invariant.answered begun is kept) c.in-Some.ensures.0 c.in-Some.ensures.1 c.in_ok-extend_line.ensures answer found.2);
      room = omega (arith, c.clear.ensures.len);
    }

pub returns-clause-answered : goal.returns-clause-answered
returns-clause-answered c =
    ok_then c.extend_line-2.result (λ kept-is begun is kept.
    underway_done c.args.command.now (begun ++ c.args.piece.now) c.args.answers.now.items c.loop-end.answers.items c.loop-end.line.items c.extend_line-2.new.line.items c.loop-end.rest.now
    (c.loop-end.invariant.answered begun is kept) c.in_default.ensures kept-is) c.extend_line-2.ensures

pub returns-clause-room : goal.returns-clause-room
returns-clause-room c =
    ok_then c.extend_line-2.result (λ kept-is. omega (arith, ap length kept-is, length-take 131073 (c.loop-end.line.items ++ c.loop-end.rest.now), c.extend_line-2.new.line.ok)) c.extend_line-2.ensures
