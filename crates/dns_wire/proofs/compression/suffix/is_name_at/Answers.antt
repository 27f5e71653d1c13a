use Rattle.std.proofs.Common.{sym, List, ℕ, Bor, ap}
use Rattle.dns_wire.specs.declared.name_cursor.NameCursor.{NameCursor}
use Rattle.dns_wire.proofs.MatchingNames.{matches_none, matches_bad, matches_ended, matches_long, matches_other, matches_next, matches_pointer, octets_after}
use Rattle.dns_wire.proofs.compression.suffix.is_name_at.Goals as goal

pub loop-size-init : goal.loop-size-init
loop-size-init c = rw c.new-cursor.ensures (matches_none _ _ _ c.requires)

pub returns-in-Err : goal.returns-in-Err
returns-in-Err c = matches_bad _ _ _ _ _ _ c.loop-size.invariant c.in-Err.ensures.exact

pub returns-in-Ok-Root : goal.returns-in-Ok-Root
returns-in-Ok-Root c =
    matches_ended _ _ _ _ _ _ c.loop-size.invariant (λ (x : Bor (List ℕ) × Bor (List ℕ)). x.0.now) (λ (x : Bor (List ℕ) × Bor (List ℕ)). x.1.now) _ _
    (rw c.in-Ok-Root.field-0-is at c.in-Ok-Root.ensures.exact) c.first_label.ensures c.is_none.ensures

pub returns-in_default : goal.returns-in_default
returns-in_default c = matches_long _ _ _ _ _ _ c.loop-size.invariant c.in-Ok-Label.size (rw (c.in-Ok-Label.field-0-is, c.in-Ok-Label.size-is) at c.in-Ok-Label.ensures.exact) c.in_default.ensures

pub returns-then-not-is_same_label : goal.returns-then-not-is_same_label
returns-then-not-is_same_label c =
    matches_other _ _ _ _ _ _ c.loop-size.invariant c.in-Ok-Label.size c.in-Some.label.now c.in-Some.next.now (rw c.in-Ok-Label.field-0-is at c.in-Ok-Label.ensures.exact) c.in-Some.ensures
    (sym (rw (octets_after c.args.contents.now c.loop-size.cursor.at c.in-Ok-Label.size _ (ap (λ (x : NameCursor). x.at) (rw c.in-Ok-Label.field-0-is at c.in-Ok-Label.ensures.moves))) at c.if-not-is_same_label.ensures))

pub loop-size-preserved-in-Ok-Label : goal.loop-size-preserved-in-Ok-Label
loop-size-preserved-in-Ok-Label c =
    rw (rw c.in-Ok-Label.field-0-is at c.in-Ok-Label.ensures.moves)
    (matches_next _ _ _ _ _ _ c.loop-size.invariant c.in-Ok-Label.size c.in-Some.label.now c.in-Some.next.now (rw c.in-Ok-Label.field-0-is at c.in-Ok-Label.ensures.exact) c.in-Some.ensures
    (sym (rw (octets_after c.args.contents.now c.loop-size.cursor.at c.in-Ok-Label.size _ (ap (λ (x : NameCursor). x.at) (rw c.in-Ok-Label.field-0-is at c.in-Ok-Label.ensures.moves))) at c.if-not-is_same_label.ensures)))

pub loop-size-preserved : goal.loop-size-preserved
loop-size-preserved c = rw (rw c.in-Ok-Pointer.field-0-is at c.in-Ok-Pointer.ensures.moves) (matches_pointer _ _ _ _ _ _ c.loop-size.invariant _ (rw c.in-Ok-Pointer.field-0-is at c.in-Ok-Pointer.ensures.exact) (rw c.in-Ok-Pointer.field-0-is at c.in-Ok-Pointer.ensures.fits).1)
