use Rattle.std.proofs.Common.{◌≡◌, ◌-◌, length, sym, ap, ◌∙◌, refl}
use Rattle.std.specs.Prelude.{reverse}
use Rattle.dns_wire.specs.Names.{labels_wire, IsName, name_labels}
use Rattle.dns_wire.proofs.Backward.{relative_is, reversed_long}
use Rattle.dns_wire.proofs.Spelled.{name_octets}
use Rattle.dns_name.proofs.HeldReversed.{HoldsReversed, holds_turned}
use Rattle.dns_name.proofs.name.Name.to_revname.Goals as goal
use Rattle.dns_name.proofs.name.Name.to_revname.Goals.{After-copy_before}

held : (c : After-copy_before) → HoldsReversed c.copy_before.new.buffer (255 - length c.relative-labels.result.slice.now - 1) (name_labels c.args.self.now.slice.now)
held c =
    let labels = name_labels c.args.self.now.slice.now in
    let is : IsName labels = (name_octets _ _ c.args.self.now.is_name).0 in
    let relative : c.relative-labels.result.slice.now ≡ labels_wire labels = (relative_is _ _ c.relative-labels.result.are_labels).1 ∙ ap labels_wire c.relative-labels.ensures.labels in
    let place : 255 - length c.relative-labels.result.slice.now ≡ 255 - length (labels_wire (reverse labels)) = ap (λ n. 255 - n) (ap length relative ∙ sym (reversed_long labels)) in
    holds_turned _ _ _ labels _ is refl place (rw c.relative-labels.ensures.labels at c.put_reversed.ensures) c.copy_before.ensures

pub from_buffer-requires-clause-early : goal.from_buffer-requires-clause-early
from_buffer-requires-clause-early c = (held (goal.at.from_buffer-requires-clause-early c).After-copy_before).early

pub from_buffer-requires-clause-name : goal.from_buffer-requires-clause-name
from_buffer-requires-clause-name c = (held (goal.at.from_buffer-requires-clause-name c).After-copy_before).whole

pub returns : goal.returns
returns c = c.from_buffer.ensures ∙ (held (goal.at.returns c).After-copy_before).labels_are
