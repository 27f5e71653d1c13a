-- Bitmaps of types (RFC 4034 section 4.1.2): windows one after another, whose numbers strictly rise. A window is its number,
-- the number of its octets of bits, and these octets.
use Rattle.std.specs.Prelude.{ℕ, zero, suc, ◌-◌, List, [], ◌∷◌, ◌++◌, length, Bool, true, false, not, Option, Some, None, nat_lt, slice_index, ◌&&◌, if◌then◌else◌}
use Rattle.dns_wire.specs.Octets.{Octets}
use Rattle.dns_record.specs.CharacterStrings.{character_string}
use Rattle.dns_wire.specs.Steps.{◌>>=◌}

-- 256 types from 256 times the number on; the octets hold a bit for each, the first bit of the first octet for the first
pub record Window : Type 0 where
  pub number : ℕ
  pub bits : Octets

-- from 1 to 32 octets, of which the last is not 0
abbrev pub are_bits : Octets → Bool
are_bits bits = nat_lt 0 (length bits) && nat_lt (length bits) 33 && nat_lt 0 (slice_index bits (length bits - 1))

abbrev pub window_if : ℕ → ℕ → Option (Octets × Octets) → Option (Window × Octets)
window_if least number None = None
window_if least number (Some (bits, rest)) =
    if not (nat_lt number least) && are_bits bits then Some (record { number = number; bits = bits }, rest) else None

-- a window at the start whose number is at least this one, and the octets after it
abbrev pub window : ℕ → Octets → Option (Window × Octets)
window least [] = None
window least (number ∷ rest) = window_if least number (character_string rest)

-- windows and nothing else, if fewer than steps are read
unfoldable pub windows_within : ℕ → ℕ → Octets → Option (List Window)
windows_within zero least bytes = None
windows_within (suc steps) least [] = Some []
windows_within (suc steps) least (number ∷ rest) = do
  (first, after_window) ← window least (number ∷ rest)
  others ← windows_within steps (suc first.number) after_window
  Some (first ∷ others)

-- The windows that all the octets spell. `AreWindows` says it in other words.
unfoldable pub windows_of : Octets → Option (List Window)
windows_of bytes = windows_within (suc (length bytes)) 0 bytes

abbrev pub is_some : Option (List Window) → Bool
is_some None = false
is_some (Some found) = true

-- whether all the octets are a bitmap, perhaps without a window
unfoldable pub is_bitmap : Octets → Bool
is_bitmap bytes = is_some (windows_of bytes)

-- all the octets, if they are a bitmap
abbrev pub bitmap : Octets → Option (Octets × Octets)
bitmap bytes = if is_bitmap bytes then Some (bytes, []) else None

-- the same with one window at least
abbrev pub some_bitmap : Octets → Option (Octets × Octets)
some_bitmap [] = None
some_bitmap (number ∷ rest) = bitmap (number ∷ rest)

-- ---- in other words

-- the octets of windows
abbrev pub windows_octets : List Window → Octets
windows_octets [] = []
windows_octets (window ∷ others) = window.number ∷ (length window.bits ∷ (window.bits ++ windows_octets others))
