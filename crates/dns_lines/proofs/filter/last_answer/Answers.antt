use Rattle.std.proofs.Common.{◌∙◌, ◌++◌, List, ℕ, ap, subst, sym}
use Rattle.dns_lines.specs.Pieces.{IsLastAnswer}
use Rattle.dns_lines.proofs.LineLemmas.{none_there, some_there}
use Rattle.dns_lines.proofs.PieceLemmas.{last_is, no_last}
use Rattle.dns_lines.proofs.filter.last_answer.Goals as goal

pub returns-then-is_empty : goal.returns-then-is_empty
returns-then-is_empty c = λ rest kept.
    no_last c.args.command.now rest c.new-answer.result.items (none_there c.args.line.now c.is_empty.result c.is_empty.ensures c.if-is_empty.true ∙ kept) c.new-answer.ensures.items

pub returns : goal.returns
returns c = λ rest kept.
    let found = c.in_ok-add_answer.ensures.added in
    let last = last_is c.args.command.now rest c.args.line.now found.0 (some_there c.args.line.now c.is_empty.result c.is_empty.ensures c.if-is_empty.false) kept found.1 in
    subst (λ (l : List ℕ). IsLastAnswer c.args.command.now rest l) (sym (found.2 ∙ ap (λ (l : List ℕ). l ++ found.0) c.new-answer.ensures.items)) last
