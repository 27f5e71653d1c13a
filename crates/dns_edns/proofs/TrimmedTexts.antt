-- Texts without a NUL at their end.
use Rattle.std.proofs.Common.{◌≡◌, ◌≢◌, ℕ, ◌-◌, List, [], ◌∷◌, ◌++◌, Bool, true, false, length, take, refl, ap, arith}
use Rattle.std.specs.Prelude.{slice_index, ◌==◌, if◌then◌else◌}
use Rattle.std.proofs.lemmas.Bool.{eqb-true}
use Rattle.dns_edns.specs.ExtErrors.{without_last_nul}

by_test : (test : Bool) (bytes prefix : List ℕ) → ¬ (test ≡ true) → bytes ≡ (if test then prefix else bytes)
by_test true bytes prefix never = absurd (never refl)
by_test false bytes prefix never = refl

last_apart : (b : ℕ) (rest : List ℕ) (last : ℕ) → slice_index (b ∷ rest) (length rest) ≡ last → b ∷ rest ≡ take (length rest) (b ∷ rest) ++ last ∷ []
last_apart b [] last same = ap (λ (x : ℕ). x ∷ []) same
last_apart b (c ∷ rest) last same = ap (λ (x : List ℕ). b ∷ x) (last_apart c rest last same)

pub no_nul : (bytes : List ℕ) → ¬ (bytes ≡ []) → ((prefix : List ℕ) → bytes ≢ prefix ++ 0 ∷ []) → bytes ≡ without_last_nul bytes
no_nul [] some never = absurd (some refl)
no_nul (b ∷ rest) some never =
    let e : length (b ∷ rest) - 1 ≡ length rest = omega arith in
    rw e
    (by_test (slice_index (b ∷ rest) (length rest) == 0) (b ∷ rest) (take (length rest) (b ∷ rest))
    (λ f. never (take (length rest) (b ∷ rest)) (last_apart b rest 0 (eqb-true (slice_index (b ∷ rest) (length rest)) 0 f))))
