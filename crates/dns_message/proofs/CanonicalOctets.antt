-- Octets that are written over the start of others.
use Rattle.std.proofs.Common.{◌≡◌, ℕ, ◌≤◌, List, length, take, drop, Result, Ok, Err, refl, ap, ◌∙◌, arith}
use Rattle.std.specs.Prelude.{⊤, IsOk}
use Rattle.std.proofs.lemmas.List.{take_at}
use Rattle.dns_wire.specs.Building.{Builds}

-- if there is room, octets are written, and the others begin with them
pub written_prefix : {E : Type 0} (octets old new : List ℕ) (result : Result ℕ E) → length octets ≤ length old → Builds ⊤ octets old 0 new result → IsOk result × (take (length octets) new ≡ octets)
written_prefix octets old new (Ok end) room built =
    let occurs = built.ok.1 in
    (refl, ap (take (length octets)) occurs.new_is ∙ take_at octets (drop end old) (length octets) refl)
written_prefix octets old new (Err e) room built = absurd (omega (arith, built.err.2 tt, room))
