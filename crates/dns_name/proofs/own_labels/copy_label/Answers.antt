use Rattle.std.proofs.Common.{◌≡◌, ◌+◌, ◌-◌, ◌∙◌, ◌++◌, List, ℕ, ap, arith, drop, length, sym, take}
use Rattle.std.proofs.lemmas.List.{length-drop, length-take, take-take}
use Rattle.std.proofs.Math.Seq.{take-append-add}
use Rattle.dns_name.proofs.own_labels.copy_label.Goals as goal

pub returns-then-buffer-size-ge16-clause-prefix : goal.returns-then-buffer-size-ge16-clause-prefix
returns-then-buffer-size-ge16-clause-prefix c =
    let size : ℕ = c.args.size in
    let many : ℕ = 1 + c.args.label in
    let old : List ℕ = c.args.buffer.now in
    let new : List ℕ = c.copy_at.new.buffer in
    let from : List ℕ = drop c.args.at c.args.contents.now in
    let count : c.args.at + 16 - c.args.at ≡ 16 = omega arith in
    let long : length (take 16 from) ≡ 16 = omega (arith, length-take 16 from, length-drop c.args.at c.args.contents.now, c.if-contents-at-ge16.true) in
    let first : length (take size old) ≡ size = omega (arith, length-take size old, c.requires.room) in
    let block : take (size + 16) new ≡ take size old ++ take 16 from = rw (count, long) at c.copy_at.ensures.prefix in
    sym (take-take (size + many) (size + 16) new (omega (arith, c.if-label-lt16.true))) ∙ ap (take (size + many)) block ∙ (λ i. take (sym first i + many) (take size old ++ take 16 from)) ∙ take-append-add (take size old) (take 16 from) many
    ∙ ap (λ (l : List ℕ). take size old ++ l) (take-take many 16 from (omega (arith, c.if-label-lt16.true)))
