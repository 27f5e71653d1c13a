-- The types that a bitmap names (RFC 4034 section 4.1.2): bit j of octet i, counted from the top bit, of window w represents
-- type 256 * w + 8 * i + j.
use Rattle.std.specs.Prelude.{◌≡◌, ℕ, suc, ◌+◌, ◌-◌, ◌*◌, ◌/◌, ◌%◌, List, [], ◌∷◌, ◌++◌, drop, slice_index, Contains, Option, Some, None, ◌==◌, if◌then◌else◌}
use Rattle.std.specs.Int.{bit_at}
use Rattle.dns_record.specs.TypeBitMaps.{Window, windows_of}

-- the bits of an octet, the top bit first
abbrev pub octet_bits : ℕ → List ℕ
octet_bits b = b / 128 % 2 ∷ b / 64 % 2 ∷ b / 32 % 2 ∷ b / 16 % 2 ∷ b / 8 % 2 ∷ b / 4 % 2 ∷ b / 2 % 2 ∷ b % 2 ∷ []

-- the bits of octets, one octet after another
unfoldable pub bits_of : List ℕ → List ℕ
bits_of [] = []
bits_of (octet ∷ octets) = octet_bits octet ++ bits_of octets

-- the numbers of the bits that are 1, if the first has this number
unfoldable pub set_from : ℕ → List ℕ → List ℕ
set_from number [] = []
set_from number (bit ∷ bits) = if bit == 1 then number ∷ set_from (suc number) bits else set_from (suc number) bits

-- the types of a window
abbrev pub window_types : Window → List ℕ
window_types window = set_from (256 * window.number) (bits_of window.bits)

-- the types of a window from this place on, of its number and its octets of bits; the first bit is at place 0
abbrev pub types_from : ℕ → List ℕ → ℕ → List ℕ
types_from number bits place = set_from (256 * number + place) (drop place (bits_of bits))

-- the types of windows, one after another
unfoldable pub windows_types : List Window → List ℕ
windows_types [] = []
windows_types (window ∷ windows) = window_types window ++ windows_types windows

abbrev pub windows_or_none : Option (List Window) → List Window
windows_or_none None = []
windows_or_none (Some windows) = windows

-- the windows of a bitmap
unfoldable pub windows_in : List ℕ → List Window
windows_in bytes = windows_or_none (windows_of bytes)

-- the types of a bitmap
unfoldable pub types_in : List ℕ → List ℕ
types_in bytes = windows_types (windows_in bytes)

-- ---- in other words

-- the window is that of the type, and the type's bit in it is 1: that of octet (type % 256) / 8 at place type % 8 from the
-- top; after the octets of the window are bits that are 0
pub record Marks (window : Window) (type : ℕ) : Type 0 where
  pub number : window.number ≡ type / 256
  pub bit : bit_at (slice_index window.bits (type % 256 / 8)) (7 - type % 8) ≡ 1

-- a window of the bitmap marks the type
abbrev pub IsMarked : List ℕ → ℕ → Type 0
IsMarked bytes type = (window : Window) × (Contains (windows_in bytes) window × Marks window type)
