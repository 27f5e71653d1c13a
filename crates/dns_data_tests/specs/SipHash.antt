-- SipHash-2-4, which the tests of cookies pass in as a keyed function: 64-bit words, the least significant octet first.
use Rattle.std.specs.Prelude.{ℕ, zero, suc, ◌+◌, ◌*◌, ◌/◌, ◌%◌, ◌^◌, List, [], ◌∷◌, ◌++◌, length, take, drop, slice_set, bit_xor}
use Rattle.std.specs.Int.{w64, rotate_left, from_le_bytes, to_le_bytes}

-- four words
abbrev pub State : Type 0
State = ℕ × ℕ × ℕ × ℕ

abbrev pub add : ℕ → ℕ → ℕ
add x y = (x + y) % 2 ^ 64

-- the words that a key of 16 octets begins with
abbrev pub start : List ℕ → State
start key =
    let k0 = from_le_bytes w64 (take 8 key) in
    let k1 = from_le_bytes w64 (take 8 (drop 8 key)) in
    (bit_xor k0 0x736f_6d65_7073_6575, bit_xor k1 0x646f_7261_6e64_6f6d, bit_xor k0 0x6c79_6765_6e65_7261, bit_xor k1 0x7465_6462_7974_6573)

-- one round
unfoldable pub round : State → State
round v =
    let a0 = add v.0 v.1 in
    let a2 = add v.2 v.3 in
    let a1 = bit_xor (rotate_left w64 v.1 13) a0 in
    let a3 = bit_xor (rotate_left w64 v.3 16) a2 in
    let b2 = add a2 a1 in
    let b0 = add (rotate_left w64 a0 32) a3 in
    (b0, bit_xor (rotate_left w64 a1 17) b2, rotate_left w64 b2 32, bit_xor (rotate_left w64 a3 21) b0)

-- a word of the input, with two rounds
unfoldable pub with_word : State → ℕ → State
with_word v word =
    let w = round (round (v.0, v.1, v.2, bit_xor v.3 word)) in
    (bit_xor w.0 word, w.1, w.2, w.3)

-- the first words of the input, by their number
unfoldable pub with_words : State → List ℕ → ℕ → State
with_words v input zero = v
with_words v input (suc n) = with_word (with_words v input n) (from_le_bytes w64 (take 8 (drop (8 * n) input)))

-- what is left of the input, zeros, and the number of its octets
abbrev pub last_word : List ℕ → ℕ
last_word input =
    let rest = drop (8 * (length input / 8)) input in
    from_le_bytes w64 (slice_set (rest ++ drop (length rest) (0 ∷ 0 ∷ 0 ∷ 0 ∷ 0 ∷ 0 ∷ 0 ∷ 0 ∷ [])) 7 (length input % 256))

-- four rounds at the end
unfoldable pub finish : State → ℕ
finish v =
    let w = round (round (round (round (v.0, v.1, bit_xor v.2 255, v.3)))) in
    bit_xor (bit_xor (bit_xor w.0 w.1) w.2) w.3

unfoldable pub sip_hash : List ℕ → List ℕ → List ℕ
sip_hash key input = to_le_bytes w64 (finish (with_word (with_words (start key) input (length input / 8)) (last_word input)))
