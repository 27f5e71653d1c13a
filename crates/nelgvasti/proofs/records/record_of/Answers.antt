use Rattle.std.proofs.Common.{arith}
use Rattle.nelgvasti.proofs.RecordLemmas.{short_content}
use Rattle.nelgvasti.proofs.records.record_of.Goals as goal

pub of-requires : goal.of-requires
of-requires c = λ _. (c.in-Ok.ensures.typed, short_content c.args.octets.now _ c.in-Ok.rest.now (λ i. (let fits = c.type_inv.octets i in omega (arith, fits))) c.in-Ok.ensures.exact)
