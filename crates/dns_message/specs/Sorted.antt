-- Lists in order.
use Rattle.std.specs.Prelude.{◌≡◌, ℕ, ◌+◌, false, List, [], ◌∷◌}
use Rattle.std.specs.declared.cmp.Ordering.{Ordering}
use Rattle.std.specs.declared.cmp.Ordering.TheVariants.{Less}
use Rattle.std.specs.Ordering.{is_lt}

-- no element of the list comes before x
abbrev pub NoneBelow : {K : Type 0} → (K → K → Ordering) → K → List K → Type 0
NoneBelow R x [] = Unit {0}
NoneBelow R x (z ∷ zs) = (is_lt (R z x) ≡ false) × NoneBelow R x zs

-- no element comes before an earlier one
abbrev pub Ascends : {K : Type 0} → (K → K → Ordering) → List K → Type 0
Ascends R [] = Unit {0}
Ascends R (x ∷ xs) = NoneBelow R x xs × Ascends R xs

-- x comes before each element of the list
abbrev pub AllAbove : {K : Type 0} → (K → K → Ordering) → K → List K → Type 0
AllAbove R x [] = Unit {0}
AllAbove R x (z ∷ zs) = (R x z ≡ Less) × AllAbove R x zs

-- each element comes before every later one
abbrev pub Climbs : {K : Type 0} → (K → K → Ordering) → List K → Type 0
Climbs R [] = Unit {0}
Climbs R (x ∷ xs) = AllAbove R x xs × Climbs R xs

-- f of each element, added up
abbrev pub times : {K : Type 0} → (K → ℕ) → List K → ℕ
times f [] = 0
times f (x ∷ xs) = f x + times f xs
