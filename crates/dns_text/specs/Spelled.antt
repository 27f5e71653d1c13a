-- The octets that several texts spell.
use Rattle.std.specs.Prelude.{List, [], ◌∷◌, Option, Some}
use Rattle.dns_wire.specs.Octets.{Octets}
use Rattle.dns_text.specs.Hexadecimal.{spelled, trim}
use Rattle.dns_wire.specs.Steps.{◌>>=◌}

-- the octets that each text spells; `None` if one of them spells none
abbrev pub all_spelled : List Octets → Option (List Octets)
all_spelled [] = Some []
all_spelled (text ∷ texts) = do
  message ← spelled (trim text)
  messages ← all_spelled texts
  Some (message ∷ messages)
