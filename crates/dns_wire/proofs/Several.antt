-- The octets of a list of values, value by value.
use Rattle.std.proofs.Common.{◌≡◌, ℕ, ◌+◌, ◌<◌, ◌≤◌, List, [], ◌∷◌, ◌++◌, length, take, drop, get_or, Result, Ok, Err, refl, sym, ap, ◌∙◌, arith}
use Rattle.std.specs.List.{flat_map}
use Rattle.std.proofs.lemmas.List.{take_more, take-append-drop, flat_map_more}
use Rattle.std.proofs.lemmas.List.Folds.{length-flat_map-take}
use Rattle.dns_wire.specs.Building.{Occurs, Builds}
use Rattle.dns_wire.proofs.BuildingLemmas.{occurs_long, prefix_unchanged}

-- the values up to one of them, and that one
module _ {X : Type 0} (values : List X) (i : ℕ) (x : X) (within : i < length values) (is : x ≡ get_or values i x) where
  pub taken : take (i + 1) values ≡ take i values ++ x ∷ []
  taken = take_more values i x within ∙ ap (λ (y : X). take i values ++ y ∷ []) (sym is)

  -- with those after it
  pub parted : (take i values ++ x ∷ []) ++ drop (i + 1) values ≡ values
  parted = ap (λ (prefix : List X). prefix ++ drop (i + 1) values) (sym taken) ∙ take-append-drop (i + 1) values

  pub one_more : (f : X → List ℕ) → flat_map f (take i values) ++ f x ≡ flat_map f (take (i + 1) values)
  one_more f = flat_map_more f [] (take i values) x ∙ ap (flat_map f) (sym taken)

  pub no_longer : (f : X → List ℕ) → length (flat_map f (take i values)) + length (f x) ≤ length (flat_map f values)
  no_longer f = rw (← is) at (length-flat_map-take f values i x within)

-- a part that is refused after a first one
pub refused_later : {E D F G : Type 0} {a b whole first second third : List ℕ} {start middle : ℕ} {e : E} {d : D} → Occurs a first start second middle → Builds G b second middle third (Err e) → (F → G) → length a + length b ≤ length whole → Builds F whole first start third (Err d)
refused_later {a = a} {b} {whole} {first} {second} {third} {start} {middle} s t all long = record {
  ok = tt;
  err = (prefix_unchanged first second third a start middle s t.err.0, t.err.1 ∙ occurs_long s, λ f. omega (arith, t.err.2 (all f), s.end_is, occurs_long s));
}

-- a list of octets is unchanged
pub themselves : (bytes : List ℕ) → flat_map (λ b. b ∷ []) bytes ≡ bytes
themselves [] = refl
themselves (b ∷ bytes) = ap (λ (rest : List ℕ). b ∷ rest) (themselves bytes)

-- the same octets, which fit if the others do
pub builds_alike : {E F G : Type 0} {a b old new : List ℕ} {start : ℕ} {result : Result ℕ E} → (F → G) → (G → F) → a ≡ b → Builds F a old start new result → Builds G b old start new result
builds_alike {old = old} {new} {start} {result = Ok end} there back same s =
    record { ok = (there s.ok.0, rw (← same) s.ok.1); err = tt }
builds_alike {old = old} {new} {start} {result = Err e} there back same s =
    record { ok = tt; err = (s.err.0, s.err.1, λ g. rw (← same) (s.err.2 (back g))) }
