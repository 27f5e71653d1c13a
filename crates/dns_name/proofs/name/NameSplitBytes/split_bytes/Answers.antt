use Rattle.std.proofs.Common.{arith, ◌+◌, inl, inr, refl}
use Rattle.dns_wire.proofs.Walk.{Ends, walked_none, walked_more, walked_root, walked_bad, walked_past}
use Rattle.dns_name.proofs.name.NameSplitBytes.split_bytes.Goals as goal
use Rattle.dns_name.proofs.name.NameSplitBytes.split_bytes.Goals.{then-size-gt-MAX_LABEL_SIZE-via-then-size-gt-MAX_LABEL_SIZE, then-size-gt-MAX_LABEL_SIZE-via-else-size-gt-MAX_LABEL_SIZE+then-bytes-end, then-loop-end-test+else-end-lt-MAX_SIZE, else-loop-end-test}

pub loop-end-init : goal.loop-end-init
loop-end-init c = walked_none c.args.bytes.now

pub invariant_of-result : goal.invariant_of-result
invariant_of-result c =
    let ends : Ends c.args.bytes.now (c.loop-end.end + 1) = walked_root _ _ c.loop-end.invariant c.loop-end-test.true c.if-end-lt-MAX_SIZE.true c.if-size-eq0.true in
    record { is_name = rw c.split_at.ensures.front ends.whole }

pub returns-then-size-eq0-clause-exact : goal.returns-then-size-eq0-clause-exact
returns-then-size-eq0-clause-exact c =
    let ends : Ends c.args.bytes.now (c.loop-end.end + 1) = walked_root _ _ c.loop-end.invariant c.loop-end-test.true c.if-end-lt-MAX_SIZE.true c.if-size-eq0.true in
    rw (c.split_at.ensures.front, c.split_at.ensures.back) ends.read

pub returns-then-size-gt-MAX_LABEL_SIZE-clause-exact : goal.returns-then-size-gt-MAX_LABEL_SIZE-clause-exact
returns-then-size-gt-MAX_LABEL_SIZE-clause-exact c = walked_bad _ _ _ c.loop-end.invariant c.loop-end-test.true refl (omega arith)
    (elim c.then-size-gt-MAX_LABEL_SIZE.branch [ then-size-gt-MAX_LABEL_SIZE-via-then-size-gt-MAX_LABEL_SIZE w ↦ inl (omega arith) | then-size-gt-MAX_LABEL_SIZE-via-else-size-gt-MAX_LABEL_SIZE+then-bytes-end w ↦ inr (omega arith) ])

pub loop-end-preserved : goal.loop-end-preserved
loop-end-preserved c = walked_more _ _ _ c.loop-end.invariant c.loop-end-test.true refl (omega arith) (omega arith) (omega arith)

pub returns-clause-exact : goal.returns-clause-exact
returns-clause-exact c = walked_past _ _ c.loop-end.invariant
    (elim c.loop-end-test.branch [ then-loop-end-test+else-end-lt-MAX_SIZE w ↦ inr (omega arith) | else-loop-end-test w ↦ inl (omega arith) ])
