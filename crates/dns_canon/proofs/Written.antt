-- Octets that are written over others.
use Rattle.std.proofs.Common.{◌≡◌, ℕ, List, [], ◌++◌, length, drop, Result, Ok, Err, refl, ap, ◌∙◌, arith, append-nil}
use Rattle.std.specs.Prelude.{⊤, IsOk}
use Rattle.std.proofs.lemmas.List.{drop_all}
use Rattle.dns_wire.specs.Building.{Builds}

-- there is room for octets over others that are as many, and then none of these is left
pub is_written : {E : Type 0} (octets old new : List ℕ) (result : Result ℕ E) → length old ≡ length octets
    → Builds ⊤ octets old 0 new result → IsOk result × (new ≡ octets)
is_written octets old new (Ok end) long built =
    let occurs = built.ok.1 in
    let none : drop end old ≡ [] = drop_all end old (omega (arith, long, occurs.end_is)) in
    (refl, occurs.new_is ∙ ap (λ (rest : List ℕ). octets ++ rest) none ∙ append-nil octets)
is_written octets old new (Err e) long built = absurd (omega (arith, built.err.2 tt, long))
