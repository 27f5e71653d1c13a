use Rattle.std.proofs.Common.{◌≡◌, ℕ, ◌+◌, List, Option, Some, None, arith}
use Rattle.std.specs.Prelude.{IfSome}
use Rattle.dns_wire.specs.Pointers.{NameAt, label_type_count}
use Rattle.dns_name_tests.proofs.counting.steps_taken.Goals as goal

-- the count rose by the label types of this reading, and the number is that of each reading
rose : (contents : List ℕ) (offset old new : ℕ) (labels : List (List ℕ)) (end : ℕ) (found : NameAt contents offset labels end) (number : Option ℕ) → new ≡ old + label_type_count found.reads → IfSome number (λ n. (labels : List (List ℕ)) (end : ℕ) (found : NameAt contents offset labels end) → label_type_count found.reads ≡ n) → IfSome number (λ n. new ≡ old + n)
rose contents offset old new labels end found None rises counts = tt
rose contents offset old new labels end found (Some n) rises counts = omega (arith, rises, counts labels end found)

pub returns-in-Ok : goal.returns-in-Ok
returns-in-Ok g c = rose _ _ _ _ _ _ c.in-Ok.ensures.follows _ (c.in-Ok.ensures.counts c.in-Ok.ensures.follows) c.label_types_read.ensures
