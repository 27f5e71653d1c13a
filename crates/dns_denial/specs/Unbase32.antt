-- Hashes from their text in base32hex (RFC 4648 section 7).
use Rattle.std.specs.Prelude.{ℕ, zero, suc, ◌+◌, ◌-◌, ◌*◌, ◌/◌, ◌%◌, ◌^◌, ◌==◌, ◌&&◌, nat_le, [], ◌∷◌, ◌++◌, Option, Some, None, bytes_eq, drop, length, slice_index, take, if◌then◌else◌}
use Rattle.dns_wire.specs.Octets.{Octets}
use Rattle.dns_denial.specs.Base32.{base32hex_of}

-- the value of a digit, `0` to `9` and `a` to `v`, and 0 for what is none
unfoldable pub digit_value : ℕ → ℕ
digit_value c = if nat_le 48 c && nat_le c 57 then c - 48 else if nat_le 97 c && nat_le c 118 then c - 97 + 10 else 0

-- forty bits as five octets, the highest first
abbrev pub five_octets : ℕ → Octets
five_octets bits = bits / 2 ^ 32 % 256 ∷ bits / 2 ^ 24 % 256 ∷ bits / 2 ^ 16 % 256 ∷ bits / 2 ^ 8 % 256 ∷ bits % 256 ∷ []

-- eight digits as forty bits, the first digit highest
abbrev pub bits_of : Octets → ℕ
bits_of group =
    (((((((digit_value (slice_index group 0) * 32 + digit_value (slice_index group 1)) * 32 + digit_value (slice_index group 2)) * 32 + digit_value (slice_index group 3)) * 32
    + digit_value (slice_index group 4)) * 32 + digit_value (slice_index group 5)) * 32 + digit_value (slice_index group 6)) * 32 + digit_value (slice_index group 7))

-- the octets of that many groups of eight digits
unfoldable pub groups_read : ℕ → Octets → Octets
groups_read zero text = []
groups_read (suc n) text = five_octets (bits_of (take 8 text)) ++ groups_read n (drop 8 text)

-- the 20 octets whose text is this; `hashes_are_read_back` says it in other words
unfoldable pub hash_of_text : Octets → Option Octets
hash_of_text text = if length text == 32 && bytes_eq (base32hex_of (groups_read 4 text)) text then Some (groups_read 4 text) else None
