use Rattle.std.proofs.Common.{◌≡◌, ◌+◌, ◌++◌, ◌∷◌, [], length, take, ap, ◌∙◌, arith}
use Rattle.dns_label.specs.Labels.{label_wire}
use Rattle.dns_name.proofs.Buffered.{Held, held_more, held_room}
use Rattle.dns_name.proofs.labels_buf.LabelsBuf.push.Goals as goal
use Rattle.dns_name.proofs.labels_buf.LabelsBuf.push.Goals.{After-copy_at}

wire_is : (c : After-copy_at) → c.as_wire-wire.result.now ≡ label_wire c.args.label.now
wire_is c = c.as_wire-wire.ensures.wire ∙ ap label_wire c.as_label.ensures.contents

grown : (c : After-copy_at) → Held (take (c.self.inside.size + length c.as_wire-wire.result.now) c.copy_at.new.buffer) (c.args.self.now ++ c.args.label.now ∷ [])
grown c =
    held_more _ _ _ _ _ c.self.invariant.2 c.self.invariant.3 c.self.view_is (wire_is c) (c.requires.some, omega (arith, c.as_label.ensures.short)) c.copy_at.ensures.prefix

pub invariant_of-self : goal.invariant_of-self
invariant_of-self c =
    let done = (goal.at.invariant_of-self c).After-copy_at in
    let more = grown done in (
      omega (arith, held_room _ _ _ _ c.self.invariant.0 c.self.invariant.1 c.self.invariant.3 c.self.view_is c.requires.fits, ap length (wire_is done)),
      omega arith,
      more.sizes,
      more.octets_are,
    )

pub returns : goal.returns
returns c = (grown (goal.at.returns c).After-copy_at).labels_are
