-- The octets of data with two names, as the names are written and as their labels are.
use Rattle.std.proofs.Common.{◌≡◌, ℕ, List, [], ◌++◌, refl, append-nil}

pub both_names : (a b c d : List ℕ) → c ≡ a → d ≡ b → a ++ (b ++ []) ≡ c ++ d
both_names a b c d p q = rw (p, q, append-nil b) refl

pub names_and_numbers : (a b c d serial refresh retry expire minimum : List ℕ) → c ≡ a → d ≡ b → a ++ (b ++ (serial ++ (refresh ++ (retry ++ (expire ++ (minimum ++ [])))))) ≡ c ++ (d ++ (serial ++ (refresh ++ (retry ++ (expire ++ minimum)))))
names_and_numbers a b c d serial refresh retry expire minimum p q = rw (p, q, append-nil minimum) refl
