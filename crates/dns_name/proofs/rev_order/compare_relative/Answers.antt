use Rattle.std.proofs.Common.{arith, ◌∙◌, sym}
use Rattle.dns_name.proofs.NamePrefixes.{relative_decides, relative_ends, relative_passed}
use Rattle.dns_name.proofs.rev_order.compare_relative.Goals as goal

pub compare_labels-requires : goal.compare_labels-requires
compare_labels-requires c =
    relative_ends _ _ c.in-Some.next.slice.now c.in-Some-split_first.last.slice.now _ _ c.loop-label.agreed c.loop-label.left.are_labels c.loop-label.right.are_labels c.in-Some.ensures c.in-Some-split_first.ensures c.loop-label.invariant.agreed c.if-agreed-label.true

pub returns-then-agreed-label : goal.returns-then-agreed-label
returns-then-agreed-label c =
    let i = c.loop-label.invariant in
    c.compare_labels.ensures
    ∙ sym (relative_decides _ _ c.in-Some.next.slice.now c.in-Some-split_first.last.slice.now _ _ c.loop-label.agreed c.loop-label.left.are_labels c.loop-label.right.are_labels c.in-Some.ensures c.in-Some-split_first.ensures i.agreed c.if-agreed-label.true)
    ∙ sym i.same

pub loop-label-preserved : goal.loop-label-preserved
loop-label-preserved c =
    let i = c.loop-label.invariant in
    let p = relative_passed _ _ c.in-Some.next.slice.now c.in-Some-split_first.last.slice.now _ _ c.loop-label.agreed c.loop-label.left.are_labels c.loop-label.right.are_labels c.in-Some.ensures c.in-Some-split_first.ensures i.agreed (omega (arith, c.if-agreed-label.false)) c.in-Some.next.are_labels c.in-Some-split_first.last.are_labels in
    record { same = i.same ∙ p.0; agreed = p.1 }
