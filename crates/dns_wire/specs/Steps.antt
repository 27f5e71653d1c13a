-- Reading by steps.
use Rattle.std.specs.Prelude.{Option, Some, None}

-- what is read, and then what is read with it
infixl 10 ◌>>=◌
abbrev pub ◌>>=◌ : {A B : Type 0} → Option A → (A → Option B) → Option B
None >>= f = None
(Some x) >>= f = f x

-- what is read, put into something, and what follows it
abbrev pub first_to : {A B S : Type 0} → (A → B) → Option (A × S) → Option (B × S)
first_to f None = None
first_to f (Some (x, rest)) = Some (f x, rest)
