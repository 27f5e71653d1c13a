use Rattle.std.proofs.Common.{[], None, get_or, refl}
use Rattle.dns_message.specs.declared.known_names.KnownName.{KnownName}
use Rattle.dns_message.proofs.KnownNameLemmas.{is_known, names_same}
use Rattle.dns_message.proofs.known_names.KnownNames.first_at.Goals as goal

pub returns-then-name-target : goal.returns-then-name-target
returns-then-name-target c = λ contents knows.
    let names = c.deref-name-items.result.now in
    let all = names_same contents c.args.self.now.names.items names c.deref-name-items.ensures.value knows in
    let before = c.loop-name.name-index in
    let none : KnownName = record { target = 0; bound = 0; size = 0; octets = []; key = None } in
    is_known contents c.args.target names before (get_or names before none) none all c.loop-name-test.true refl c.if-name-target.true
