-- The lines of a text.
use Rattle.std.specs.Prelude.{◌≡◌, ◌≢◌, ℕ, List, [], ◌∷◌, ◌++◌, flat_map}
use Rattle.std.specs.List.{AllByRecursion}
use Rattle.dns_wire.specs.Octets.{Octets}

-- the octet LF
abbrev pub line_feed : ℕ
line_feed = 10

-- no octet is LF
abbrev pub IsLine : Octets → Type 0
IsLine line = AllByRecursion (λ b. b ≢ line_feed) line

-- a line, and the LF that ends it
abbrev pub ended : Octets → Octets
ended line = line ++ line_feed ∷ []

-- the text is these lines, an LF after each, and then octets without LF, or nothing
pub record Parted (text : Octets) (lines : List Octets) (rest : Octets) : Type 0 where
  pub text_is : text ≡ flat_map ended lines ++ rest
  pub are_lines : AllByRecursion IsLine lines
  pub is_line : IsLine rest

-- lines, and what comes after the last LF as one more if it is not empty
abbrev pub with_last : List Octets → Octets → List Octets
with_last lines [] = lines
with_last lines (b ∷ rest) = lines ++ (b ∷ rest) ∷ []

-- these are the lines of the text: each is ended by LF, but the last one may be ended by the text
pub record HasLines (text : Octets) (lines : List Octets) : Type 0 where
  pub before : List Octets
  pub rest : Octets
  pub parted : Parted text before rest
  pub lines_are : lines ≡ with_last before rest
