use Rattle.std.proofs.Common.{◌∙◌, ◌==◌, List, Some, ap, arith, length, map, rules, subst, sym, tests, ℕ}
use Rattle.std.proofs.lemmas.List.{length-map, map-append}
use Rattle.std.proofs.lemmas.Iterator.Consumers.{YieldsList-at, YieldsList-end, YieldsList-turn}
use Rattle.std.proofs.lemmas.Iterator.Splits.{YieldsList-from_slice_split}
use Rattle.std.proofs.lemmas.Result.{err_from_is_err_and}
use Rattle.std.specs.List.{slice_split}
use Rattle.dns_command.specs.Outcomes.{RefusesFor}
use Rattle.dns_text.specs.Spelled.{all_spelled}
use Rattle.dns_zone.specs.Texts.{lines_of, lines_refusal}
use Rattle.dns_zone.proofs.Lines.{few_lines, line_refused, lines_of_some, not_none, spelled_long, spelled_more}
use Rattle.dns_zone.proofs.messages.messages_in.Goals as goal

pub returns-in_err-message_in-clause-refused : goal.returns-in_err-message_in-clause-refused
returns-in_err-message_in-clause-refused c =
    let p = err_from_is_err_and c.from_residual.result c.from_residual.ensures.1 in
    let turn = YieldsList-turn
    (YieldsList-at c.into_iter-line-iterator.ensures.into_iter_gives
    (YieldsList-from_slice_split _ (λ b. b == 10) c.trimmed-solid.result.now c.split-line-items.ensures.rest c.split-line-items.ensures.done c.split-line-items.ensures.closure (λ x r q k. search (rules, tests))))
    c.loop-line.yielded _ c.loop-line.yielded_by _ _ c.in-Some.line c.in-Some.is c.next.ensures.steps in
    let lines = ap lines_of (sym c.trimmed-solid.ensures) ∙ lines_of_some c.trimmed-solid.result.now (not_none (length c.trimmed-solid.result.now) c.is_empty.result c.is_empty.ensures c.if-is_empty.false) in
    rw (p.1, p.2)
    (subst (λ (l : List (List ℕ)). RefusesFor (lines_refusal (all_spelled l)) c.in_err-message_in.field-0.0) (sym lines)
    (line_refused (slice_split (λ b. b == 10) c.trimmed-solid.result.now) (length c.loop-line.yielded) c.in-Some.line.now c.in_err-message_in.field-0.0 turn.0 turn.1 c.in_err-message_in.ensures.refused))

pub loop-line-preserved : goal.loop-line-preserved
loop-line-preserved c =
    ap all_spelled (map-append (λ line. line.now) c.loop-line.yielded _)
    ∙ spelled_more (map (λ line. line.now) c.loop-line.yielded) c.in-Some.line.now (map (λ m. m.items) c.loop-line.messages.items) c.in_ok-message_in.field-0.items c.loop-line.invariant c.in_ok-message_in.ensures.spelled
    ∙ ap Some (sym (ap (map (λ m. m.items)) c.in_ok-push.ensures.items ∙ map-append (λ m. m.items) c.loop-line.messages.items _))

pub returns : goal.returns
returns c =
    let seen = YieldsList-end
    (YieldsList-at c.into_iter-line-iterator.ensures.into_iter_gives
    (YieldsList-from_slice_split _ (λ b. b == 10) c.trimmed-solid.result.now c.split-line-items.ensures.rest c.split-line-items.ensures.done c.split-line-items.ensures.closure (λ x r q k. search (rules, tests))))
    c.loop-line.yielded _ c.loop-line.yielded_by _ _ c.in-None.is c.next.ensures.steps in
    let lines = ap lines_of (sym c.trimmed-solid.ensures) ∙ lines_of_some c.trimmed-solid.result.now (not_none (length c.trimmed-solid.result.now) c.is_empty.result c.is_empty.ensures c.if-is_empty.false) in
    record {
      spelled = ap all_spelled (lines ∙ sym seen.0) ∙ c.loop-line.invariant;
      few = omega (
        arith,
        c.loop-line.messages.ok,
        length-map c.loop-line.messages.items (λ m. m.items),
        spelled_long (map (λ line. line.now) c.loop-line.yielded) (map (λ m. m.items) c.loop-line.messages.items) c.loop-line.invariant,
        length-map c.loop-line.yielded (λ line. line.now),
        seen.1,
        ap (λ (t : List ℕ). length (slice_split (λ b. b == 10) t)) c.trimmed-solid.ensures,
        few_lines c.args.text.now,
      );
      refused = tt;
    }
