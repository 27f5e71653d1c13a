use Rattle.std.proofs.Common.{arith, ◌+◌, inl, inr, refl, Some, None, get_or}
use Rattle.dns_wire.proofs.Walk.{walked_more}
use Rattle.dns_name.specs.Unparsed.{offset_of_pointer}
use Rattle.dns_name.proofs.UnparsedNames.{UnparsedEnds, walked_to_root, walked_to_pointer, walked_on, walked_to_bad, walked_to_half}
use Rattle.dns_name.proofs.unparsed_name.read_unparsed.Goals as goal
use Rattle.dns_name.proofs.unparsed_name.read_unparsed.Goals.{Then-octet-eq0, Else-left-lt2, then-size-gt-MAX_LABEL_SIZE-via-then-size-gt-MAX_LABEL_SIZE, then-size-gt-MAX_LABEL_SIZE-via-else-size-gt-MAX_LABEL_SIZE+then-left-size}

at_root : (c : Then-octet-eq0) → UnparsedEnds c.args.bytes.now (c.loop-at.at + 1) None
at_root c = walked_to_root _ _ c.loop-at.invariant c.loop-at-test.true c.if-at.true c.if-octet-eq0.true

pub returns-then-octet-eq0-clause-read : goal.returns-then-octet-eq0-clause-read
returns-then-octet-eq0-clause-read c = (at_root (goal.at.returns-then-octet-eq0-clause-read c).Then-octet-eq0).read

pub returns-then-octet-eq0-clause-whole : goal.returns-then-octet-eq0-clause-whole
returns-then-octet-eq0-clause-whole c = (at_root (goal.at.returns-then-octet-eq0-clause-whole c).Then-octet-eq0).whole

pub returns-then-octet-eq0-clause-pointer : goal.returns-then-octet-eq0-clause-pointer
returns-then-octet-eq0-clause-pointer c = (at_root (goal.at.returns-then-octet-eq0-clause-pointer c).Then-octet-eq0).pointer_is

at_pointer : (c : Else-left-lt2) → UnparsedEnds c.args.bytes.now (c.loop-at.at + 2) (Some (offset_of_pointer (get_or c.args.bytes.now c.loop-at.at 0, get_or c.args.bytes.now (c.loop-at.at + 1) 0)))
at_pointer c = walked_to_pointer _ _ c.loop-at.invariant _ c.loop-at-test.true c.if-at.true refl c.if-octet-ge-POINTER_TAG.true c.if-left-lt2.false

pub returns-then-left-lt2-clause-refused : goal.returns-then-left-lt2-clause-refused
returns-then-left-lt2-clause-refused c = walked_to_half _ _ c.loop-at.invariant _ c.loop-at-test.true refl c.if-octet-ge-POINTER_TAG.true c.if-left-lt2.true

pub returns-then-octet-ge-POINTER_TAG-clause-read : goal.returns-then-octet-ge-POINTER_TAG-clause-read
returns-then-octet-ge-POINTER_TAG-clause-read c = (at_pointer (goal.at.returns-then-octet-ge-POINTER_TAG-clause-read c).Else-left-lt2).read

pub returns-then-octet-ge-POINTER_TAG-clause-whole : goal.returns-then-octet-ge-POINTER_TAG-clause-whole
returns-then-octet-ge-POINTER_TAG-clause-whole c = (at_pointer (goal.at.returns-then-octet-ge-POINTER_TAG-clause-whole c).Else-left-lt2).whole

pub returns-then-octet-ge-POINTER_TAG-clause-pointer : goal.returns-then-octet-ge-POINTER_TAG-clause-pointer
returns-then-octet-ge-POINTER_TAG-clause-pointer c = rw c.pointer_offset-offset.ensures (at_pointer (goal.at.returns-then-octet-ge-POINTER_TAG-clause-pointer c).Else-left-lt2).pointer_is

pub returns-then-size-gt-MAX_LABEL_SIZE-clause-refused : goal.returns-then-size-gt-MAX_LABEL_SIZE-clause-refused
returns-then-size-gt-MAX_LABEL_SIZE-clause-refused c = walked_to_bad _ _ c.loop-at.invariant _ c.loop-at-test.true refl (omega arith) c.if-octet-ge-POINTER_TAG.false
    (elim c.then-size-gt-MAX_LABEL_SIZE.branch [ then-size-gt-MAX_LABEL_SIZE-via-then-size-gt-MAX_LABEL_SIZE w ↦ inl w.if-size-gt-MAX_LABEL_SIZE.true | then-size-gt-MAX_LABEL_SIZE-via-else-size-gt-MAX_LABEL_SIZE+then-left-size w ↦ inr w.if-left-size.true ])

pub loop-at-preserved : goal.loop-at-preserved
loop-at-preserved c = walked_more _ _ _ c.loop-at.invariant c.loop-at-test.true refl (omega arith) (omega arith) (omega arith)

pub returns-else-at-clause-refused : goal.returns-else-at-clause-refused
returns-else-at-clause-refused c = walked_on _ _ c.loop-at.invariant (inr c.if-at.false)

pub returns-after-loop-at-clause-refused : goal.returns-after-loop-at-clause-refused
returns-after-loop-at-clause-refused c = walked_on _ _ c.loop-at.invariant (inl c.loop-at-test.false)
