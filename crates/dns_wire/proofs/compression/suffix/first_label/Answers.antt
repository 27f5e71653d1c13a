use Rattle.std.proofs.Common.{arith, refl}
use Rattle.std.proofs.lemmas.List.{length-drop}
use Rattle.dns_wire.proofs.Spelled.{name_nonempty, root_first, first_label}
use Rattle.dns_wire.proofs.MatchingNames.{first_of_name}
use Rattle.dns_wire.proofs.compression.suffix.first_label.Goals as goal

pub bounds-name-0 : goal.bounds-name-0
bounds-name-0 c = name_nonempty _ _ c.requires

pub returns-then-size-eq0 : goal.returns-then-size-eq0
returns-then-size-eq0 c = root_first _ c.requires c.if-size-eq0.true

pub split_at-requires-2 : goal.split_at-requires-2
split_at-requires-2 c = rw c.split_at.ensures.back (omega (arith, (first_label _ c.requires (omega arith)).room, length-drop 1 c.args.name.now))

pub returns : goal.returns
returns c = first_of_name _ _ _ c.requires (omega arith) (rw (c.split_at-2.ensures.front, c.split_at.ensures.back) refl) (rw (c.split_at-2.ensures.back, c.split_at.ensures.back) refl)
