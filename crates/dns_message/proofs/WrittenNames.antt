-- Names that are written to the beginning of a buffer.
use Rattle.std.proofs.Common.{◌≡◌, ℕ, ◌≤◌, List, length, take, drop, refl, ap, ◌∙◌, arith, Result, Ok, Err}
use Rattle.std.specs.Prelude.{⊤}
use Rattle.std.specs.Result.{IsOk}
use Rattle.std.proofs.lemmas.List.{take_at}
use Rattle.dns_wire.specs.Building.{Builds}

pub always_fits : {E : Type 0} (octets old new : List ℕ) (result : Result ℕ E) → Builds ⊤ octets old 0 new result → length octets ≤ length old → IsOk result
always_fits octets old new (Ok end) builds room = refl
always_fits octets old new (Err e) builds room = absurd (omega (arith, builds.err.2 tt, room))

pub written_first : {E : Type 0} (octets old new : List ℕ) (result : Result ℕ E) → Builds ⊤ octets old 0 new result → length octets ≤ length old → take (length octets) new ≡ octets
written_first octets old new (Ok end) builds room = ap (take (length octets)) builds.ok.1.new_is ∙ take_at octets (drop end old) (length octets) refl
written_first octets old new (Err e) builds room = absurd (omega (arith, builds.err.2 tt, room))
