use Rattle.std.proofs.Common.{arith, refl}
use Rattle.dns_message.proofs.KeptOctets.{is_kept, not_kept}
use Rattle.dns_message.proofs.LowercasedFields.{from_place}
use Rattle.dns_message.proofs.lowercase_fields.kept_end.Goals as goal

pub returns-in-Some : goal.returns-in-Some
returns-in-Some c =
    let read = rw (from_place c.args.contents.now c.args.start) at c.in-Some.ensures.1 in
    is_kept c.args.kind c.args.contents.now c.args.start c.requires.kept c.requires.start c.in-Some.ensures.0 c.in-Some.rest.now _ (λ i. (let fits = c.type_inv.contents i in omega (arith, fits))) read refl

pub returns-in-None : goal.returns-in-None
returns-in-None c =
    not_kept c.args.kind c.args.contents.now c.args.start c.requires.kept c.requires.start (rw (from_place c.args.contents.now c.args.start) at c.in-None.ensures)
