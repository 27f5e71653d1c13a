use Rattle.std.proofs.Common.{arith, ◌≡◌, ◌<◌, ◌≤◌, ◌+◌, length}
use Rattle.dns_wire.specs.Names.{labels_wire}
use Rattle.dns_wire.specs.Reversed.{relative_labels}
use Rattle.dns_name.proofs.NameSuffixes.{walked_left, walked_right, walked_order, relative_size, relative_is_name, relative_less, relative_empty, roots_agree}
use Rattle.dns_name.proofs.order.labels_before.Goals as goal
use Rattle.dns_name.proofs.order.labels_before.Goals.{then-len, else-len+then-len-agreed, else-len+else-len-agreed, then-len-2+in_default, else-len-2+in_default-split_first}

pub loop-left-smaller-then-len-2 : goal.loop-left-smaller-then-len-2
loop-left-smaller-then-len-2 g c = omega (arith, relative_less _ _ _ c.loop-left.left.are_labels c.in-Some.next.are_labels c.in-Some.ensures)

pub loop-left-preserved-then-len-2 : goal.loop-left-preserved-then-len-2
loop-left-preserved-then-len-2 g c =
    let i = c.loop-left.invariant in
    let less = relative_less _ _ _ c.loop-left.left.are_labels c.in-Some.next.are_labels c.in-Some.ensures in
    let left = relative_size _ c.loop-left.left.are_labels in
    let right = relative_size _ c.loop-left.right.are_labels in
    let least : length (labels_wire (relative_labels c.loop-left.right.slice.now)) ≤ length (labels_wire (relative_labels c.loop-left.left.slice.now)) = omega (arith, left, right, c.if-len-2.true, c.len-in-loop-left-2.ensures, c.len-in-loop-left-3.ensures) in
    let apart : length (labels_wire (relative_labels c.loop-left.left.slice.now)) < c.args.agreed → length (labels_wire (relative_labels c.loop-left.left.slice.now)) ≡ length (labels_wire (relative_labels c.loop-left.right.slice.now)) → ⊥ = λ within same. elim c.if-len.branch [
      | then-len w ↦ w.if-len.true (omega (arith, left, right, same, c.len.ensures, c.len-in-loop-left.ensures))
      | else-len+then-len-agreed w ↦ omega (arith, w.if-len-agreed.true, w.len-else-len.ensures, within, left)
    ] in
    let most : c.add.new.self + length c.in-Some.next.slice.now + length c.loop-left.right.slice.now ≤ c.args.steps.now + length c.args.a.slice.now + length c.args.b.slice.now = omega (arith, less, i.most, c.add.ensures) in
    let grown : c.args.steps.now ≤ c.add.new.self = omega (arith, i.least, c.add.ensures) in
    let short : length c.in-Some.label.now ≤ length c.args.a.slice.now = omega (arith, less, i.within) in
    let smaller : length c.in-Some.next.slice.now ≤ length c.args.a.slice.now = omega (arith, less, i.within) in
    record { walked = walked_left _ _ _ _ _ _ _ _ _ i.walked c.in-Some.ensures least apart; least = grown; most = most; labels = short; within = smaller }

pub loop-left-smaller : goal.loop-left-smaller
loop-left-smaller g c = omega (arith, relative_less _ _ _ c.loop-left.right.are_labels c.in-Some-split_first.next.are_labels c.in-Some-split_first.ensures)

pub loop-left-preserved : goal.loop-left-preserved
loop-left-preserved g c =
    let i = c.loop-left.invariant in
    let less = relative_less _ _ _ c.loop-left.right.are_labels c.in-Some-split_first.next.are_labels c.in-Some-split_first.ensures in
    let left = relative_size _ c.loop-left.left.are_labels in
    let right = relative_size _ c.loop-left.right.are_labels in
    let least : length (labels_wire (relative_labels c.loop-left.left.slice.now)) < length (labels_wire (relative_labels c.loop-left.right.slice.now)) = omega (arith, left, right, c.if-len-2.false, c.len-in-loop-left-2.ensures, c.len-in-loop-left-3.ensures) in
    let most : c.add.new.self + length c.loop-left.left.slice.now + length c.in-Some-split_first.next.slice.now ≤ c.args.steps.now + length c.args.a.slice.now + length c.args.b.slice.now = omega (arith, less, i.most, c.add.ensures) in
    let grown : c.args.steps.now ≤ c.add.new.self = omega (arith, i.least, c.add.ensures) in
    record { walked = walked_right _ _ _ _ _ _ _ _ _ i.walked c.in-Some-split_first.ensures least; least = grown; most = most; labels = i.labels; within = i.within }

pub returns-clause-order : goal.returns-clause-order
returns-clause-order g c =
    let i = c.loop-left.invariant in
    let left = relative_size _ c.loop-left.left.are_labels in
    let right = relative_size _ c.loop-left.right.are_labels in
    let roots = roots_agree (relative_labels c.args.a.slice.now) (relative_labels c.args.b.slice.now) in
    let same : length (labels_wire (relative_labels c.loop-left.left.slice.now)) ≡ length (labels_wire (relative_labels c.loop-left.right.slice.now)) = elim c.if-len.branch [
      | else-len+else-len-agreed w ↦ omega (arith, left, right, w.if-len.false, c.len.ensures, c.len-in-loop-left.ensures)
      | then-len-2+in_default w ↦ omega (arith, left, right, relative_empty _ c.loop-left.left.are_labels w.in_default.ensures, w.if-len-2.true, w.len-in-loop-left-2.ensures, w.len-in-loop-left-3.ensures)
      | else-len-2+in_default-split_first w ↦ absurd (omega (arith, relative_empty _ c.loop-left.right.are_labels w.in_default-split_first.ensures, w.if-len-2.false, w.len-in-loop-left-2.ensures, w.len-in-loop-left-3.ensures))
    ] in
    let within : length (labels_wire (relative_labels c.loop-left.left.slice.now)) < c.args.agreed = elim c.if-len.branch [
      | else-len+else-len-agreed w ↦ omega (arith, left, w.if-len-agreed.false, w.len-else-len.ensures)
      | then-len-2+in_default w ↦ omega (arith, left, relative_empty _ c.loop-left.left.are_labels w.in_default.ensures, roots, c.requires)
      | else-len-2+in_default-split_first w ↦ absurd (omega (arith, relative_empty _ c.loop-left.right.are_labels w.in_default-split_first.ensures, w.if-len-2.false, w.len-in-loop-left-2.ensures, w.len-in-loop-left-3.ensures))
    ] in
    walked_order _ _ _ _ _ _ _ c.requires i.walked (relative_is_name _ c.args.a.are_labels) (relative_is_name _ c.args.b.are_labels) same within
