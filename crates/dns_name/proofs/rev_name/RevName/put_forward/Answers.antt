use Rattle.std.proofs.Common.{arith, ap, ◌≡◌, ◌∙◌, length}
use Rattle.std.specs.Prelude.{reverse}
use Rattle.std.proofs.lemmas.List.{reverse-reverse}
use Rattle.dns_wire.specs.Names.{labels_wire}
use Rattle.dns_wire.specs.Reversed.{relative_labels, reversed_name_labels}
use Rattle.dns_wire.proofs.Backward.{ReversedSize, reversed_size}
use Rattle.dns_wire.proofs.Walk.{wire_long}
use Rattle.dns_name.proofs.Turned.{forward_occurs}
use Rattle.dns_name.proofs.rev_name.RevName.put_forward.Goals as goal

pub copy_before-requires-clause-room : goal.copy_before-requires-clause-room
copy_before-requires-clause-room c = omega (arith, (reversed_size _ _ c.args.self.now.is_name).some)

pub put_reversed-requires-clause-room : goal.put_reversed-requires-clause-room
put_reversed-requires-clause-room c = omega (arith, c.relative.ensures.octets)

pub returns : goal.returns
returns c =
    let labels = reversed_name_labels c.args.self.now.slice.now in
    let size : ReversedSize c.args.self.now.slice.now labels = reversed_size _ _ c.args.self.now.is_name in
    let turned : reverse (relative_labels c.relative.result.slice.now) ≡ labels = ap reverse c.relative.ensures.labels ∙ reverse-reverse labels in
    let long : length c.relative.result.slice.now ≡ length (labels_wire labels) = omega (arith, c.relative.ensures.octets, size.long, wire_long labels) in
    forward_occurs _ _ _ labels c.args.start _ (omega (arith, size.long)) c.requires c.copy_before.ensures (rw (turned, long) at c.put_reversed.ensures)
