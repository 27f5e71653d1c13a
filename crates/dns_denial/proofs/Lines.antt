-- Lines of records.
use Rattle.std.proofs.Common.{◌≡◌, ◌<◌, ◌≤◌, ◌+◌, ℕ, List, ◌∷◌, [], ◌++◌, length, flat_map, take, take_all, get_or, sym, ap, ◌∙◌}
use Rattle.std.proofs.lemmas.List.{flat_map_more, take_more}

-- what is appended for one more
pub push_more : {X : Type 0} (vs : List X) (f : X → List ℕ) (i : ℕ) (v : X) (start now new : List ℕ) → i < length vs → v ≡ get_or vs i v → now ≡ start ++ flat_map f (take i vs) → new ≡ now ++ f v
    → new ≡ start ++ flat_map f (take (i + 1) vs)
push_more {X = X} vs f i v start now new within at is more =
    more ∙ ap (λ (l : List ℕ). l ++ f v) is ∙ flat_map_more f start (take i vs) v
    ∙ ap (λ (l : List X). start ++ flat_map f l) (ap (λ (x : X). take i vs ++ x ∷ []) at ∙ sym (take_more vs i v within))

-- the lines of all
pub lines_all : {X : Type 0} (vs : List X) (f : X → List ℕ) (i : ℕ) → length vs ≤ i → flat_map f (take i vs) ≡ flat_map f vs
lines_all vs f i past = ap (flat_map f) (take_all i vs past)
