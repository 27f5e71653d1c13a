use Rattle.std.proofs.Common.{ap, ◌≡◌, ◌∙◌, sym, arith, length}
use Rattle.std.proofs.lemmas.Bool.Decides.{nat_tests}
use Rattle.dns_wire.specs.Names.{wire}
use Rattle.dns_wire.proofs.Backward.{root_alone}
use Rattle.dns_name.proofs.name.Name.is_root.Goals as goal

pub returns : goal.returns
returns c = (
  λ t. let one : c.len.result ≡ 1 = grind (arith, nat_tests, t) in root_alone _ (sym c.len.ensures.wire ∙ one),
  λ e. let one : c.len.result ≡ 1 = c.len.ensures.wire ∙ ap (λ l. length (wire l)) e in grind (arith, nat_tests),
)
