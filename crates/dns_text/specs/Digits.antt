-- The values of hexadecimal digits.
use Rattle.std.specs.Prelude.{ℕ, [], ◌∷◌, Option, Some, None}
use Rattle.dns_wire.specs.Octets.{Octets}
use Rattle.dns_text.specs.Hexadecimal.{digit_value}

-- the value of a digit, before the values of those after it
abbrev pub value_before : Option ℕ → Option Octets → Option Octets
value_before (Some value) (Some values) = Some (value ∷ values)
value_before value values = None

-- the values of digits; `None` if one of them is no digit
unfoldable pub digit_values : Octets → Option Octets
digit_values [] = Some []
digit_values (c ∷ rest) = value_before (digit_value c) (digit_values rest)
