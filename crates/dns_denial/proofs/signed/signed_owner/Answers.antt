use Rattle.std.proofs.Common.{◌++◌, ◌-◌, ◌<◌, ◌≡◌, ◌∙◌, arith, drop, length}
use Rattle.dns_wire.specs.Names.{name_labels, wire}
use Rattle.dns_denial.proofs.Signatures.{wildcard_owner}
use Rattle.dns_denial.proofs.signed.signed_owner.Goals as goal

pub returns : goal.returns
returns c =
    let labels = name_labels c.args.owner.slice.now in
    let less : c.args.count < length labels = omega (arith, c.if-passed-eq0.false, c.label_count.ensures, c.requires) in
    let after : c.after_labels.result.now ≡ wire (drop (length labels - c.args.count) labels) =
    c.after_labels.ensures ∙ (λ i. wire (drop (c.label_count.ensures i - c.args.count) (name_labels (c.as_bytes-2.ensures.octets i)))) in
    c.in_ok-extend_from_slice.ensures.items ∙ (λ i. c.in_ok-signed.ensures.items i ++ after i) ∙ wildcard_owner labels c.args.count less
