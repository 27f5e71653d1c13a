use Rattle.std.proofs.Common.{Bool, subst, sym, ◌∙◌}
use Rattle.std.specs.Prelude.{◌↔◌, IsTrue}
use Rattle.std.specs.Ordering.{is_eq}
use Rattle.std.proofs.Common.{ap}
use Rattle.dns_message.specs.Same.{Alike}
use Rattle.dns_message.proofs.Collapsing.{alike_tested}
use Rattle.dns_message.proofs.canonical_record.CanonicalRecord.alike.Goals as goal

pub returns-clause-exact : goal.returns-clause-exact
returns-clause-exact c =
    let layout_matches = c.is_eq.ensures ∙ ap is_eq c.cmp_but_ttl.ensures in
    subst (λ (b : Bool). IsTrue b ↔ Alike c.args.self.now c.args.other.now) (sym layout_matches) (alike_tested c.args.self.now c.args.other.now)
