use Rattle.std.proofs.Common.{◌≡◌, [], ◌∷◌, length, ap, ◌∙◌, arith}
use Rattle.std.specs.Prelude.{reverse}
use Rattle.dns_wire.specs.Reversed.{reversed_name_labels}
use Rattle.dns_label.specs.Labels.{sequence_labels}
use Rattle.dns_name.proofs.Labelled.{reversed_name_filled}
use Rattle.dns_name.proofs.rev_name.RevName.labels.Goals as goal

pub new-requires : goal.new-requires
new-requires c = rw c.as_bytes.ensures.octets (reversed_name_filled _ c.args.self.now.is_name).are

pub returns-clause-labels : goal.returns-clause-labels
returns-clause-labels c = c.new.ensures ∙ ap sequence_labels c.as_bytes.ensures.octets ∙ (reversed_name_filled _ c.args.self.now.is_name).labels

pub returns-clause-few : goal.returns-clause-few
returns-clause-few c =
    let all = reversed_name_filled _ c.args.self.now.is_name in
    let same : c.new.result ≡ [] ∷ reverse (reversed_name_labels c.args.self.now.slice.now) = c.new.ensures ∙ ap sequence_labels c.as_bytes.ensures.octets ∙ all.labels in
    omega (arith, ap length same, all.few)
