-- Strings one after another, each after an octet with the number of its octets (RFC 1035 section 3.3.14).
use Rattle.std.specs.Prelude.{ℕ, zero, suc, List, [], ◌∷◌, ◌++◌, length, take, drop, Bool, true, false, not, Option, Some, None, nat_lt, ◌&&◌, if◌then◌else◌}
use Rattle.dns_wire.specs.Octets.{Octets}

-- a string at the start, without the octet before it, and what follows it (RFC 1035 section 3.3, <character-string>)
abbrev pub character_string : Octets → Option (Octets × Octets)
character_string [] = None
character_string (size ∷ rest) = if nat_lt (length rest) size then None else Some (take size rest, drop size rest)

abbrev pub after_string : (Octets → Bool) → Option (Octets × Octets) → Bool
after_string more None = false
after_string more (Some (found, rest)) = more rest

-- any number of strings and nothing else, if fewer than steps are read
unfoldable pub character_strings_within : ℕ → Octets → Bool
character_strings_within zero bytes = false
character_strings_within (suc steps) [] = true
character_strings_within (suc steps) (size ∷ rest) = after_string (λ more. character_strings_within steps more) (character_string (size ∷ rest))

-- One string or more, and nothing else. `AreCharacterStrings` says it in other words.
unfoldable pub is_character_strings : Octets → Bool
is_character_strings [] = false
is_character_strings (size ∷ rest) = character_strings_within (suc (length (size ∷ rest))) (size ∷ rest)

-- the same, of no more octets than the size of a record can say
unfoldable pub is_txt_data : Octets → Bool
is_txt_data bytes = not (nat_lt 65535 (length bytes)) && is_character_strings bytes

-- all the octets, if they are such
abbrev pub character_strings : Octets → Option (Octets × Octets)
character_strings bytes = if is_txt_data bytes then Some (bytes, []) else None

-- ---- in other words

-- the octets of strings, each after their number
abbrev pub character_strings_octets : List Octets → Octets
character_strings_octets [] = []
character_strings_octets (found ∷ others) = length found ∷ (found ++ character_strings_octets others)
