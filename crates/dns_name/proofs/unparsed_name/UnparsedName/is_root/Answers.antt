use Rattle.std.proofs.Common.{ap, ◌≡◌, ◌∙◌, sym, arith, length}
use Rattle.std.proofs.lemmas.Bool.Decides.{nat_tests}
use Rattle.dns_name.specs.Unparsed.{unparsed_wire}
use Rattle.dns_name.proofs.UnparsedNames.{root_alone_unparsed}
use Rattle.dns_name.proofs.unparsed_name.UnparsedName.is_root.Goals as goal

pub returns : goal.returns
returns c = (
  λ t. let one : c.len.result ≡ 1 = grind (arith, nat_tests, t) in root_alone_unparsed _ (sym c.len.ensures.wire ∙ one),
  λ e. let one : c.len.result ≡ 1 = c.len.ensures.wire ∙ ap (λ n. length (unparsed_wire n)) e in grind (arith, nat_tests),
)
