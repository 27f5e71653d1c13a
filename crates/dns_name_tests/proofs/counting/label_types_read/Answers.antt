use Rattle.std.proofs.Common.{◌≡◌, ℕ, ◌+◌, List, Some, Ok, Err, arith}
use Rattle.std.specs.Prelude.{Result}
use Rattle.std.specs.Result.{result_ok}
use Rattle.dns_wire.specs.declared.name_cursor.LabelType.{LabelType}
use Rattle.dns_wire.specs.declared.name_cursor.LabelType.TheVariants.{Root, Label, Pointer}
use Rattle.dns_wire.specs.declared.name_cursor.NameCursor.{NameCursor}
use Rattle.dns_wire.specs.Pointers.{label_type_at, LabelTypeFits, after}
use Rattle.dns_name.proofs.CountedSteps.{Counted, counted_none, counted_label, counted_pointer, counted_root}
use Rattle.dns_name_tests.proofs.counting.label_types_read.Goals as goal

-- the result whose value is this
was_ok : {A E : Type 0} (result : Result A E) (value : A) → Some value ≡ result_ok result → result ≡ Ok value
was_ok (Ok found) value is = cc
was_ok (Err error) value is = absurd cc

-- one label type further, if it is not the root
counted_on : (contents : List ℕ) (offset count size : ℕ) (cursor : NameCursor) (label_type : LabelType) → ¬ (label_type ≡ Root) → label_type_at contents cursor.start cursor.at ≡ Some label_type → LabelTypeFits contents cursor.start cursor.at label_type → Counted contents offset cursor.start cursor.at 0 count size → (more : ℕ) × Counted contents offset (after cursor label_type).start (after cursor label_type).at 0 (count + 1) more
counted_on contents offset count size cursor Root other is fits counted = absurd (other cc)
counted_on contents offset count size cursor (Label label) other is fits counted =
    (size + (1 + label), counted_label contents offset cursor.start cursor.at 0 count size label counted fits)
counted_on contents offset count size cursor (Pointer target) other is fits counted =
    (size, counted_pointer contents offset cursor.start cursor.at 0 count size target counted is fits.1)

pub loop-count-init : goal.loop-count-init
loop-count-init c = (0, rw c.new-cursor.ensures (counted_none _ _ _))

pub loop-count-preserved : goal.loop-count-preserved
loop-count-preserved c =
    let next = rw (was_ok c.next_label_type.result c.in_ok-ok.field-0 c.in_ok-ok.ensures.value) at c.next_label_type.ensures in
    rw next.moves (counted_on _ _ _ _ c.loop-count.cursor _ c.in_default.not-Root next.exact next.fits c.loop-count.invariant.1)

pub returns-in-Root : goal.returns-in-Root
returns-in-Root c =
    let next = rw (was_ok c.next_label_type.result c.in_ok-ok.field-0 c.in_ok-ok.ensures.value) at c.next_label_type.ensures in
    λ labels end found. omega (arith, counted_root _ _ _ _ _ _ _ c.loop-count.invariant.1 (rw c.in-Root.is at next.exact) labels end found)
