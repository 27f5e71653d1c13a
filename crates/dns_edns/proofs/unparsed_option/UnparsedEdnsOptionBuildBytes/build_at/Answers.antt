use Rattle.std.proofs.Common.{ap, arith}
use Rattle.std.specs.Prelude.{length}
use Rattle.dns_wire.proofs.Several.{themselves, builds_alike}
use Rattle.dns_edns.specs.Options.{option_octets}
use Rattle.dns_edns.proofs.unparsed_option.UnparsedEdnsOptionBuildBytes.build_at.Goals as goal

pub returns : goal.returns
returns c =
    let content = c.args.self.now.content.now in
    builds_alike
    (λ f. omega (arith, f.1.0, ap length (themselves content)))
    (λ g. (tt, (omega (arith, g, ap length (themselves content)), λ k d within. tt)))
    (ap (option_octets c.args.self.now.code.code.value) (themselves content))
    c.build_at.ensures
