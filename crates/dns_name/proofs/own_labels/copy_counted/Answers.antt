use Rattle.std.proofs.Common.{◌≡◌, ◌+◌, ◌∙◌, subst, arith, inl, inr}
use Rattle.std.proofs.lemmas.Result.{err_from_is_err_and}
use Rattle.dns_name.proofs.OwnLabelLemmas.{SoFar, so_far_none, so_far_label, so_far_first}
use Rattle.dns_name.proofs.own_labels.copy_counted.Goals as goal

pub loop-target-init : goal.loop-target-init
loop-target-init g c = record { array = c.requires.room.0; room = c.requires.room.1; so_far = so_far_none _ _ _ _ _ }

pub loop-target-preserved : goal.loop-target-preserved
loop-target-preserved g c =
    let exact = rw c.in-Label.is at c.in_ok-read_label_type.ensures.exact in
    let so : SoFar c.args.contents.now c.args.start c.args.before c.args.buffer.now c.copy_label.new.buffer (c.loop-target.at + 1 + c.in-Label.label) (c.loop-target.size + (1 + c.in-Label.label)) c.args.steps.now (c.loop-target.steps + 1) =
    so_far_label _ _ _ _ _ _ _ _ _ _ _ c.loop-target.invariant.so_far exact c.copy_label.ensures.prefix in
    let next : c.loop-target.at + 1 + c.in-Label.label ≡ c.loop-target.at + (1 + c.in-Label.label) = omega arith in
    record {
      array = c.copy_label.ensures.long ∙ c.loop-target.invariant.array;
      room = omega (arith, c.if-size-label-ge-MAX_SIZE.false);
      so_far = rw c.add.ensures (subst (λ n. SoFar c.args.contents.now c.args.start c.args.before c.args.buffer.now c.copy_label.new.buffer n (c.loop-target.size + (1 + c.in-Label.label)) c.args.steps.now (c.loop-target.steps + 1)) next so);
    }

pub returns-in_err-read_label_type-clause-first : goal.returns-in_err-read_label_type-clause-first
returns-in_err-read_label_type-clause-first g c = so_far_first _ _ _ _ _ _ _ _ _ c.loop-target.invariant.so_far (omega (arith, c.requires.room.0, c.requires.room.1))

pub returns-in-Root-clause-first : goal.returns-in-Root-clause-first
returns-in-Root-clause-first g c = so_far_first _ _ _ _ _ _ _ _ _ c.loop-target.invariant.so_far (omega (arith, c.requires.room.0, c.requires.room.1))

pub returns-in-Pointer-clause-first : goal.returns-in-Pointer-clause-first
returns-in-Pointer-clause-first g c = so_far_first _ _ _ _ _ _ _ _ _ c.loop-target.invariant.so_far (omega (arith, c.requires.room.0, c.requires.room.1))

pub returns-then-size-label-ge-MAX_SIZE-clause-first : goal.returns-then-size-label-ge-MAX_SIZE-clause-first
returns-then-size-label-ge-MAX_SIZE-clause-first g c = so_far_first _ _ _ _ _ _ _ _ _ c.loop-target.invariant.so_far (omega (arith, c.requires.room.0, c.requires.room.1))

pub returns-in_err-read_label_type-clause-refused : goal.returns-in_err-read_label_type-clause-refused
returns-in_err-read_label_type-clause-refused g c =
    let p = err_from_is_err_and c.from_residual.result c.from_residual.ensures.1 in
    let so = c.loop-target.invariant.so_far in
    rw p.1 (
      so.labels,
      omega (arith, c.add.ensures, so.steps_are),
      record { stop = c.loop-target.at; there = so.there; short = omega (arith, so.size_is, c.loop-target.invariant.room); ends = inl c.in_err-read_label_type.ensures.exact },
    )

pub returns-in-Root-clause-copied : goal.returns-in-Root-clause-copied
returns-in-Root-clause-copied g c =
    let so = c.loop-target.invariant.so_far in (
      so.labels,
      omega (arith, c.add.ensures, so.steps_are),
      record { stop = c.loop-target.at; there = so.there; ends = (rw c.in-Root.is at c.in_ok-read_label_type.ensures.exact, omega arith); size = so.size_is; short = c.loop-target.invariant.room; octets = so.octets },
    )

pub returns-in-Pointer-clause-copied : goal.returns-in-Pointer-clause-copied
returns-in-Pointer-clause-copied g c =
    let so = c.loop-target.invariant.so_far in (
      so.labels,
      omega (arith, c.add.ensures, so.steps_are),
      record { stop = c.loop-target.at; there = so.there; ends = (rw c.in-Pointer.is at c.in_ok-read_label_type.ensures.exact, omega arith); size = so.size_is; short = c.loop-target.invariant.room; octets = so.octets },
    )

pub returns-then-size-label-ge-MAX_SIZE-clause-refused : goal.returns-then-size-label-ge-MAX_SIZE-clause-refused
returns-then-size-label-ge-MAX_SIZE-clause-refused g c =
    let so = c.loop-target.invariant.so_far in (
      so.labels,
      omega (arith, c.add.ensures, so.steps_are),
      record {
        stop = c.loop-target.at;
        there = so.there;
        short = omega (arith, so.size_is, c.loop-target.invariant.room);
        ends = inr (c.in-Label.label, rw c.in-Label.is at c.in_ok-read_label_type.ensures.exact, omega (arith, so.size_is, c.if-size-label-ge-MAX_SIZE.true));
      },
    )
