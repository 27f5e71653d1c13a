-- The order of labels (RFC 4034 section 6.1).
use Rattle.std.specs.Prelude.{◌≡◌, List, ◌∷◌, ◌++◌}
use Rattle.std.specs.Ordering.{nat_cmp}
use Rattle.std.specs.Str.{str_to_ascii_lowercase}
use Rattle.std.specs.Cmp.Lexicographic.{slice_cmp}
use Rattle.std.specs.declared.cmp.Ordering.{Ordering}
use Rattle.dns_wire.specs.Octets.{Octets}

-- labels octet by octet, in lowercase; a proper prefix comes first
abbrev pub label_cmp : Octets → Octets → Ordering
label_cmp a b = slice_cmp nat_cmp (str_to_ascii_lowercase a) (str_to_ascii_lowercase b)

-- A list precedes another if the two agree up to some place, and there the first has ended and the other has not, or
-- what the first has is less. So no octet sorts before a zero octet.
pub data Precedes {A : Type 0} (IsLess : A → A → Type 0) (xs ys : List A) : Type 0 where
  ends : (y : A) (more : List A) → ys ≡ xs ++ y ∷ more → Precedes IsLess xs ys
  differs : (leading : List A) (x y : A) (more others : List A) → IsLess x y → xs ≡ leading ++ x ∷ more → ys ≡ leading ++ y ∷ others → Precedes IsLess xs ys
