use Rattle.std.proofs.Common.{◌<◌, arith, length}
use Rattle.std.proofs.lemmas.Bool.Decides.{nat_tests}
use Rattle.dns_message.proofs.KnownNameLemmas.{is_known}
use Rattle.dns_message.proofs.known_names.KnownNames.numbered_at.Goals as goal

pub returns : goal.returns
returns c = λ contents knows.
    let names = c.args.self.now.names.items in
    let lookup = rw c.deref-2.ensures.value at c.in_ok-name.ensures.lookup in
    let within : c.in_ok-before.before < length names = grind (arith, nat_tests, lookup.0) in
    is_known contents c.args.target names c.in_ok-before.before c.in_ok-name.name.now c.in_ok-name.name.now knows within lookup.1 c.if-name-target.false
