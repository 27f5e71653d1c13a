-- Text in base32hex by groups of five octets.
use Rattle.std.proofs.Common.{◌≡◌, ℕ, ◌+◌, ◌*◌, ◌<◌, ◌≤◌, List, [], ◌∷◌, ◌++◌, length, take, drop, get_or, refl, sym, ap, ◌∙◌, arith}
use Rattle.std.proofs.lemmas.List.{append_assoc, append-nil, take_all, drop_all, drop-drop, length-drop}
use Rattle.std.proofs.lemmas.Slice.{take-put_mid}
use borrow.Rule.Slice.PartMut.{put_mid}
use Rattle.dns_denial.specs.Base32.{base32hex_of, eight_digits, forty_bits}

-- five octets have eight digits
pub one_group : (xs : List ℕ) → length xs ≡ 5
    → base32hex_of xs ≡ eight_digits (forty_bits (get_or xs 0 0) (get_or xs 1 0) (get_or xs 2 0) (get_or xs 3 0) (get_or xs 4 0))
unfolding base32hex_of
one_group (a ∷ b ∷ c ∷ d ∷ e ∷ []) long = refl
one_group (a ∷ b ∷ c ∷ d ∷ e ∷ f ∷ rest) long = absurd (omega arith)
one_group (a ∷ b ∷ c ∷ d ∷ []) long = absurd (omega arith)
one_group (a ∷ b ∷ c ∷ []) long = absurd (omega arith)
one_group (a ∷ b ∷ []) long = absurd (omega arith)
one_group (a ∷ []) long = absurd (omega arith)
one_group [] long = absurd (omega arith)

-- the first five octets come first
pub first_group : (xs : List ℕ) → 5 ≤ length xs → base32hex_of xs ≡ base32hex_of (take 5 xs) ++ base32hex_of (drop 5 xs)
unfolding base32hex_of
first_group (a ∷ b ∷ c ∷ d ∷ e ∷ rest) long = refl
first_group (a ∷ b ∷ c ∷ d ∷ []) long = absurd (omega arith)
first_group (a ∷ b ∷ c ∷ []) long = absurd (omega arith)
first_group (a ∷ b ∷ []) long = absurd (omega arith)
first_group (a ∷ []) long = absurd (omega arith)
first_group [] long = absurd (omega arith)

-- a group's text is written after the text of the groups before it
pub group_written : (octets text group : List ℕ) (i j k : ℕ) → length octets ≡ 20 → length text ≡ 32 → i < 4 → length group ≡ 8 → k ≡ 5
    → group ≡ base32hex_of (take k (drop (5 * i) octets)) → take (8 * i) text ++ base32hex_of (drop (5 * i) octets) ≡ base32hex_of octets
    → take (8 * (i + 1)) (put_mid (8 * i) j text group) ++ base32hex_of (drop (5 * (i + 1)) octets) ≡ base32hex_of octets
group_written octets text group i j k long wide early eight five is so_far =
    let front : take (8 * (i + 1)) (put_mid (8 * i) j text group) ≡ take (8 * i) text ++ group = take-put_mid (8 * i) j text group (8 * (i + 1)) (omega arith) (omega arith) in
    let next : drop 5 (drop (5 * i) octets) ≡ drop (5 * (i + 1)) octets = drop-drop 5 (5 * i) octets ∙ ap (λ (n : ℕ). drop n octets) (omega arith) in
    let group_is : group ≡ base32hex_of (take 5 (drop (5 * i) octets)) = rw five at is in
    let split = first_group (drop (5 * i) octets) (omega (arith, length-drop (5 * i) octets)) in
    let here : group ++ base32hex_of (drop (5 * (i + 1)) octets) ≡ base32hex_of (drop (5 * i) octets) = rw (group_is, ← next) (sym split) in
    rw (front, append_assoc, here) so_far

-- four groups are all
pub all_written : (octets text : List ℕ) (i : ℕ) → length octets ≡ 20 → length text ≡ 32 → i ≡ 4
    → take (8 * i) text ++ base32hex_of (drop (5 * i) octets) ≡ base32hex_of octets → text ≡ base32hex_of octets
unfolding base32hex_of
all_written octets text i long wide four so_far =
    let whole : take (8 * i) text ≡ text = take_all (8 * i) text (omega arith) in
    let none : drop (5 * i) octets ≡ [] = drop_all (5 * i) octets (omega arith) in
    sym (append-nil text) ∙ (rw (whole, none) at so_far)
