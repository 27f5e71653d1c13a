use Rattle.std.proofs.Common.{List, ℕ, sym, ap, ◌∙◌}
use Rattle.std.specs.Prelude.{fold}
use Rattle.dns_record.specs.Strings.{strings_writes}
use Rattle.dns_plain.proofs.txt.TxtHash.hash.Goals as goal

pub loop-string-init : goal.loop-string-init
loop-string-init g c = ap (λ (s : List (List ℕ)). fold g.H.Hasher.write c.args.state.now (strings_writes s)) c.iter-strings.ensures.strings

pub loop-string-preserved : goal.loop-string-preserved
loop-string-preserved g c =
    ap (λ s. fold g.H.Hasher.write s (strings_writes c.next.new.self)) c.hash.ensures
    ∙ sym (ap (λ (s : List (List ℕ)). fold g.H.Hasher.write c.loop-string.state (strings_writes s)) c.in-Some.ensures.steps)
    ∙ c.loop-string.invariant

pub returns : goal.returns
returns g c =
    sym (ap (λ (s : List (List ℕ)). fold g.H.Hasher.write c.loop-string.state (strings_writes s)) c.in_default.ensures.steps.0)
    ∙ c.loop-string.invariant
