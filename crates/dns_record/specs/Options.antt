-- Options one after another (RFC 6891 section 6.1.2): each a code and a size, of two octets each, and that many octets.
use Rattle.std.specs.Prelude.{ℕ, zero, suc, List, [], ◌∷◌, length, Bool, true, false, not, Option, Some, None, nat_lt, ◌&&◌, if◌then◌else◌}
use Rattle.std.specs.Int.{w16}
use Rattle.dns_wire.specs.Octets.{Octets}
use Rattle.dns_wire.specs.Reading.{number, octets}
use Rattle.dns_wire.specs.Steps.{◌>>=◌}

pub record OptionSeen : Type 0 where
  pub code : ℕ
  pub content : Octets

-- an option at the start, and the octets after it
abbrev pub option : Octets → Option (OptionSeen × Octets)
option bytes = do
  (code, after_code) ← number w16 bytes
  (size, after_size) ← number w16 after_code
  (content, rest) ← octets size after_size
  Some (record { code = code; content = content }, rest)

-- options and nothing else, if fewer than steps are read
unfoldable pub options_within : ℕ → Octets → Option (List OptionSeen)
options_within zero bytes = None
options_within (suc steps) [] = Some []
options_within (suc steps) (b ∷ bytes) = do
  (first, rest) ← option (b ∷ bytes)
  others ← options_within steps rest
  Some (first ∷ others)

-- The options that all the octets spell, perhaps none. `AreOptions` says it in other words.
unfoldable pub options_of : Octets → Option (List OptionSeen)
options_of bytes = options_within (suc (length bytes)) bytes

abbrev pub are_some : Option (List OptionSeen) → Bool
are_some None = false
are_some (Some found) = true

-- whether all the octets are options
unfoldable pub is_options : Octets → Bool
is_options bytes = are_some (options_of bytes)

-- the same, of no more octets than the size of a record can say
unfoldable pub is_option_data : Octets → Bool
is_option_data bytes = not (nat_lt 65535 (length bytes)) && is_options bytes

-- all the octets, if they are such
abbrev pub options : Octets → Option (Octets × Octets)
options bytes = if is_option_data bytes then Some (bytes, []) else None
