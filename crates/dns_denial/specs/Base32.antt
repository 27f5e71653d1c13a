-- The text of octets in base32hex (RFC 4648 section 7), in lowercase.
use Rattle.std.specs.Prelude.{ℕ, ◌+◌, ◌*◌, ◌/◌, ◌%◌, ◌^◌, List, [], ◌∷◌, ◌++◌, codes, slice_index}

-- the thirty-two digits, in the order of their values
abbrev pub digits : List ℕ
digits = codes "0123456789abcdefghijklmnopqrstuv"

-- the digit of the last five bits of a number
abbrev pub last_digit : ℕ → ℕ
last_digit bits = slice_index digits (bits % 32)

-- five octets as one number of forty bits, the first octet highest
abbrev pub forty_bits : ℕ → ℕ → ℕ → ℕ → ℕ → ℕ
forty_bits a b c d e = (((a * 256 + b) * 256 + c) * 256 + d) * 256 + e

-- forty bits as eight digits of five bits each, the highest first
abbrev pub eight_digits : ℕ → List ℕ
eight_digits bits =
    last_digit (bits / 2 ^ 35) ∷ last_digit (bits / 2 ^ 30) ∷ last_digit (bits / 2 ^ 25) ∷ last_digit (bits / 2 ^ 20)
    ∷ last_digit (bits / 2 ^ 15) ∷ last_digit (bits / 2 ^ 10) ∷ last_digit (bits / 2 ^ 5) ∷ last_digit bits ∷ []

-- eight digits for each five octets; fewer than five at the end, which RFC 4648 pads, are left out here
unfoldable pub base32hex_of : List ℕ → List ℕ
base32hex_of (a ∷ b ∷ c ∷ d ∷ e ∷ rest) = eight_digits (forty_bits a b c d e) ++ base32hex_of rest
base32hex_of few = []
