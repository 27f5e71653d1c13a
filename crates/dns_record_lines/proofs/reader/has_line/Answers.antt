use Rattle.std.proofs.Common.{◌++◌, ◌-◌, ◌∙◌, ◌∷◌, ◌≡◌, [], List, ap, arith, length, length-append, sym, take, ℕ}
use Rattle.std.proofs.lemmas.List.{take_at}
use Rattle.std.specs.Cmp.Lexicographic.{bytes_decides}
use Rattle.dns_record_lines.specs.RecordLines.{record_line}
use Rattle.dns_record_lines.proofs.reader.has_line.Goals as goal

-- what was written without its last octet is the line
written : (c : goal.After-eq) → take (c.len.result - 1) c.deref.result.now ≡ record_line c.args.form.now
written c =
    let line = record_line c.args.form.now in
    let all : c.push_record_line.new.text.items ≡ line ++ 10 ∷ [] = c.in_ok-push_record_line.ensures.added ∙ ap (λ (l : List ℕ). l ++ (line ++ 10 ∷ [])) c.clear.ensures.items in
    ap (take (c.len.result - 1)) (c.deref.ensures.value ∙ all) ∙ take_at line (10 ∷ []) (c.len.result - 1) (omega (arith, c.len.ensures, c.deref.ensures.len, ap length c.deref.ensures.value, ap length all, length-append line (10 ∷ [])))

pub returns-clause-is : goal.returns-clause-is
returns-clause-is c = λ same other. (c.push_record_line.ensures.record other, sym (sym (written c) ∙ (bytes_decides (take (c.len.result - 1) c.deref.result.now) c.args.line.now).0 (sym c.eq.ensures ∙ same)))

pub returns-clause-other : goal.returns-clause-other
returns-clause-other c = λ is. c.eq.ensures ∙ (bytes_decides (take (c.len.result - 1) c.deref.result.now) c.args.line.now).1 (written c ∙ sym is.1)
