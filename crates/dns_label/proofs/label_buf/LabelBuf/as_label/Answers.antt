use Rattle.dns_label.proofs.FilledLabels.{label_alone}
use Rattle.dns_label.proofs.StoredLabels.{in_use}
use Rattle.dns_label.proofs.label_buf.LabelBuf.as_label.Goals as goal

pub invariant_of-result : goal.invariant_of-result
invariant_of-result c =
    let used = in_use _ c.self.invariant.0 c.self.invariant.1 in
    record { is_label = label_alone _ _ used.short used.wire_is }
