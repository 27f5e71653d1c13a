-- What the reading of a cookie leaves over.
use Rattle.std.proofs.Common.{◌≡◌, Bool, true, false, cond, ℕ, List, [], length, Option, Some, None, sym}
use Rattle.std.specs.Prelude.{nat_lt, ◌||◌}
use Rattle.std.proofs.lemmas.Option.{some_pair_parts}
use Rattle.dns_wire.specs.ReadingLemmas.{nothing_follows}
use Rattle.dns_wire.specs.Reading.{Follows, LeavesRest}
use Rattle.dns_edns.specs.Cookies.{cookie}

sized_leaves : (few many : Bool) (bytes x rest : List ℕ) → cond {A = Option (List ℕ × List ℕ)} (few || many) None (Some (bytes, [])) ≡ Some (x, rest) → Follows rest bytes
sized_leaves true many bytes x rest e = absurd cc
sized_leaves false true bytes x rest e = absurd cc
sized_leaves false false bytes x rest e = nothing_follows bytes rest (sym (some_pair_parts bytes x [] rest e).1)

pub cookie_leaves : LeavesRest cookie
cookie_leaves bytes x rest e = sized_leaves (nat_lt (length bytes) 16) (nat_lt 40 (length bytes)) bytes x rest e
