use Rattle.std.proofs.Common.{Vec, Global, ℕ, nat_eq, sym, ◌∙◌}
use Rattle.std.specs.Cmp.Derive.Mapped.{pointwise-map}
use Rattle.std.specs.Cmp.Lexicographic.{pointwise}
use Rattle.dns_canon.proofs.canonical.CanonListPartialEq.eq.Goals as goal

pub returns : goal.returns
returns c =
    rw (← c.self.view_is, ← c.other.view_is)
    (c.eq.ensures ∙ sym (pointwise-map (λ (v : Vec ℕ Global). v.items) (pointwise nat_eq) c.self.inside.lists.items c.other.inside.lists.items))
