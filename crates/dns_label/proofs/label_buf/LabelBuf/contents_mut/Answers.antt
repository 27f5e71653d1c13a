use Rattle.std.proofs.Common.{refl, rules}
use Rattle.dns_wire.proofs.StorageLemmas.{stored_over}
use Rattle.dns_label.proofs.label_buf.LabelBuf.contents_mut.Goals as goal

pub returns : goal.returns
returns c =
    let inside = c.self.inside in (
      (refl, λ w. rw (← c.self.view_is) (stored_over inside.storage.octets w c.self.invariant.0 c.self.invariant.1)),
      record { writes_back = tt; value = search rules },
    )
