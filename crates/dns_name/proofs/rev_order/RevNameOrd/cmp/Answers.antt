use Rattle.std.proofs.Common.{ap, ◌∙◌}
use Rattle.dns_wire.specs.Names.{lowered}
use Rattle.dns_wire.specs.Reversed.{relative_labels, reversed_name_labels}
use Rattle.dns_wire.proofs.Backward.{lowered-reverse}
use Rattle.dns_name.specs.Order.{key, key_cmp}
use Rattle.dns_name.proofs.rev_order.RevNameOrd.cmp.Goals as goal

pub returns : goal.returns
returns c =
    let first = ap lowered c.relative.ensures.labels ∙ lowered-reverse (reversed_name_labels c.args.self.now.slice.now) in
    let second = ap lowered c.relative-2.ensures.labels ∙ lowered-reverse (reversed_name_labels c.args.other.now.slice.now) in
    c.compare_relative.ensures ∙ ap (λ k. key_cmp k (lowered (relative_labels c.relative-2.result.slice.now))) first ∙ ap (key_cmp (key (reversed_name_labels c.args.self.now.slice.now))) second
