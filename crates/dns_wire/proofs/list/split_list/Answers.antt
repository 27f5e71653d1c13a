use Rattle.std.proofs.Common.{arith, sym, ◌∙◌, ◌≡◌, ap, List, [], ◌∷◌, ◌++◌, ◌-◌}
use Rattle.std.specs.Prelude.{map}
use Rattle.dns_wire.specs.Lists.{with_prefix, list_of}
use Rattle.std.proofs.lemmas.List.{map-append}
use Rattle.dns_wire.proofs.Listed.{list_ended, list_refused, list_step}
use Rattle.dns_wire.proofs.list.split_list.Goals as goal

pub returns-in_default : goal.returns-in_default
returns-in_default g c = sym c.loop-left.invariant ∙ list_refused _ _ _ c.loop-left.left (omega arith) c.in_default.ensures.exact

pub loop-left-preserved : goal.loop-left-preserved
loop-left-preserved g c =
    let seen = g.T.ParseBytes.seen in
    let grown : map seen c.push.new.self.items ≡ map seen c.loop-left.values.items ++ seen c.in-Ok.value ∷ [] = ap (map seen) c.in-Ok-push.ensures.items ∙ map-append seen c.loop-left.values.items (c.in-Ok.value ∷ []) in
    ap (λ (prefix : List g.T.ParseBytes.Seen). with_prefix prefix (list_of g.T.ParseBytes.reads (c.loop-left.left - 1) c.in-Ok.next.now)) grown
    ∙ sym (list_step g.T.ParseBytes.reads (map seen c.loop-left.values.items) _ c.loop-left.left (seen c.in-Ok.value) c.in-Ok.next.now (omega arith) c.in-Ok.ensures.exact)
    ∙ c.loop-left.invariant

pub returns : goal.returns
returns g c = sym c.loop-left.invariant ∙ list_ended _ _ _ c.loop-left.left (omega arith)
