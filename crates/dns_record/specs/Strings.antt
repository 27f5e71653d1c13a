-- The strings of TXT data, in order (RFC 1035 section 3.3.14), and when two lists of them are the same.
use Rattle.std.specs.Prelude.{◌≡◌, ℕ, zero, suc, List, [], ◌∷◌, length, map, Bool, true, Option, Some, None}
use Rattle.std.specs.Cmp.Lexicographic.{pointwise, pointwise_decides, bytes_decides}
use Rattle.std.specs.Cmp.Derive.Mapped.{pointwise-map}
use Rattle.std.specs.Str.{str_to_ascii_lowercase}
use Rattle.std.proofs.Common.{ap, ◌∙◌}
use Rattle.dns_wire.specs.Octets.{Octets}
use Rattle.dns_wire.specs.Names.{lowered}
use Rattle.dns_record.specs.CharStrs.{charstr_wire, same_charstr}
use Rattle.dns_record.specs.CharacterStrings.{character_string}

-- a string before those that are read after it
abbrev pub then_strings : (Octets → List Octets) → Option (Octets × Octets) → List Octets
then_strings more None = []
then_strings more (Some (found, rest)) = found ∷ more rest

-- the strings at the start, one after another, of which at most that many are read
unfoldable pub strings_within : ℕ → Octets → List Octets
strings_within zero bytes = []
strings_within (suc steps) bytes = then_strings (λ more. strings_within steps more) (character_string bytes)

-- The strings of octets, without the octets that give their sizes. `strings_of_character_strings` of `dns_plain` says it in other words.
unfoldable pub strings_in : Octets → List Octets
strings_in bytes = strings_within (length bytes) bytes

-- ---- equality

-- as many strings, and string by string the same, ignoring ASCII case
abbrev pub same_strings : List Octets → List Octets → Bool
same_strings a b = pointwise same_charstr a b

-- a write for each string: the number of its octets, and the octets in lowercase
abbrev pub strings_writes : List Octets → List Octets
strings_writes strings = map charstr_wire (lowered strings)

-- the same strings are equal in lowercase
pub lowered_from_same : (a b : List Octets) → same_strings a b ≡ true → lowered a ≡ lowered b
lowered_from_same a b e = (pointwise_decides bytes_decides (lowered a) (lowered b)).0 (pointwise-map str_to_ascii_lowercase (pointwise _) a b ∙ e)

-- and are fed alike to a hasher
pub same_strings_alike : (a b : List Octets) → same_strings a b ≡ true → strings_writes a ≡ strings_writes b
same_strings_alike a b e = ap (map charstr_wire) (lowered_from_same a b e)
