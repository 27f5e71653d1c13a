-- What the reading of a label leaves over.
use Rattle.std.proofs.Common.{◌≡◌, ℕ, Bool, true, false, cond, ltb, List, [], ◌∷◌, length, take, drop, Option, Some, None, refl, arith}
use Rattle.std.specs.Prelude.{◌||◌, nat_lt}
use Rattle.dns_wire.specs.ReadingLemmas.{follows_both, counted_leaves}
use Rattle.dns_wire.specs.Reading.{Follows, LeavesRest}
use Rattle.dns_label.specs.Labels.{plain_label}

either_leaves : {A : Type 0} (long : Bool) (n : ℕ) (bytes : List ℕ) (x y : A) (rest : List ℕ) → ◌≡◌ {A = Option (A × List ℕ)} (cond (long || ltb (length bytes) n) None (Some (x, drop n bytes))) (Some (y, rest)) → Follows rest bytes
either_leaves true n bytes x y rest e = absurd cc
either_leaves false n bytes x y rest e = counted_leaves (ltb (length bytes) n) n bytes x y rest refl e

pub label_leaves : LeavesRest plain_label
unfolding plain_label
label_leaves [] label rest e = absurd cc
label_leaves (size ∷ bytes) label rest e =
    follows_both (size ∷ bytes) bytes rest (record { count = 1; within = omega arith; rest_is = refl }) (either_leaves (nat_lt 63 size) size bytes (take size bytes) label rest e)
