-- Octets, and what is made of them.
use Rattle.std.specs.Prelude.{ℕ, List}

-- octets one after another, each a number below 256 if they come from a message or a text
abbrev pub Octets : Type 0
Octets = List ℕ

-- the labels of a name without the root, or of a part of a name, from the first to the last
abbrev pub Labels : Type 0
Labels = List Octets

-- places in a message, as offsets in its octets after the header
abbrev pub Places : Type 0
Places = List ℕ
