-- The bits of octets, and the numbers of those that are 1.
use Rattle.std.proofs.Common.{◌≡◌, ℕ, zero, suc, ◌+◌, ◌-◌, ◌*◌, ◌/◌, ◌%◌, ◌^◌, ◌<◌, ◌≤◌, true, false, ltb, List, [], ◌∷◌, ◌++◌, length, drop, get_or, drop-cons, refl, ap, ◌∙◌, arith}
use Rattle.std.specs.Prelude.{◌==◌}
use Rattle.std.proofs.lemmas.Bool.{ltb-false, ltb-true, lt-ltb}
use Rattle.std.proofs.lemmas.List.{drop_all}
use Rattle.dns_nsec.specs.Bitmaps.{octet_bits, bits_of, set_from}

-- ---- where a bit is

in_octet : (octet j : ℕ) (more : List ℕ) → j < 8 → get_or (octet_bits octet ++ more) j 0 ≡ octet / 2 ^ (7 - j) % 2
in_octet octet zero more lt = refl
in_octet octet (suc zero) more lt = refl
in_octet octet (suc (suc zero)) more lt = refl
in_octet octet (suc (suc (suc zero))) more lt = refl
in_octet octet (suc (suc (suc (suc zero)))) more lt = refl
in_octet octet (suc (suc (suc (suc (suc zero))))) more lt = refl
in_octet octet (suc (suc (suc (suc (suc (suc zero)))))) more lt = refl
in_octet octet (suc (suc (suc (suc (suc (suc (suc zero))))))) more lt = let e : octet ≡ octet / 1 = omega arith in ap (λ (n : ℕ). n % 2) e
in_octet octet (suc (suc (suc (suc (suc (suc (suc (suc j)))))))) more lt = absurd (omega arith)

no_octet : (j : ℕ) → j < 8 → 0 ≡ 0 / 2 ^ (7 - j) % 2
no_octet zero lt = refl
no_octet (suc zero) lt = refl
no_octet (suc (suc zero)) lt = refl
no_octet (suc (suc (suc zero))) lt = refl
no_octet (suc (suc (suc (suc zero)))) lt = refl
no_octet (suc (suc (suc (suc (suc zero))))) lt = refl
no_octet (suc (suc (suc (suc (suc (suc zero)))))) lt = refl
no_octet (suc (suc (suc (suc (suc (suc (suc zero))))))) lt = refl
no_octet (suc (suc (suc (suc (suc (suc (suc (suc j)))))))) lt = absurd (omega arith)

after_octet : (octet k : ℕ) (more : List ℕ) → get_or (octet_bits octet ++ more) (suc (suc (suc (suc (suc (suc (suc (suc k)))))))) 0 ≡ get_or more k 0
after_octet octet k more = refl

-- bit j of octet i, counted from the top bit
bit_at : (octets : List ℕ) (i j : ℕ) → j < 8 → get_or (bits_of octets) (8 * i + j) 0 ≡ get_or octets i 0 / 2 ^ (7 - j) % 2
unfolding bits_of
bit_at [] i j lt = no_octet j lt
bit_at (octet ∷ octets) zero j lt =
    let e : 8 * 0 + j ≡ j = omega arith in
    ap (λ (k : ℕ). get_or (octet_bits octet ++ bits_of octets) k 0) e ∙ in_octet octet j (bits_of octets) lt
bit_at (octet ∷ octets) (suc i) j lt =
    let e : 8 * suc i + j ≡ suc (suc (suc (suc (suc (suc (suc (suc (8 * i + j)))))))) = omega arith in
    ap (λ (k : ℕ). get_or (octet_bits octet ++ bits_of octets) k 0) e ∙ after_octet octet (8 * i + j) (bits_of octets) ∙ bit_at octets i j lt

pub bit_of : (octets : List ℕ) (place : ℕ) → get_or (bits_of octets) place 0 ≡ get_or octets (place / 8) 0 / 2 ^ (7 - place % 8) % 2
bit_of octets place =
    let e : place ≡ 8 * (place / 8) + place % 8 = omega arith in
    ap (λ (k : ℕ). get_or (bits_of octets) k 0) e ∙ bit_at octets (place / 8) (place % 8) (omega arith)

pub bits_count : (octets : List ℕ) → length (bits_of octets) ≡ 8 * length octets
unfolding bits_of
bits_count [] = refl
bits_count (octet ∷ octets) = omega (arith, bits_count octets)

pub past_end : (xs : List ℕ) (i : ℕ) → length xs ≤ i → get_or xs i 0 ≡ 0
past_end [] i le = refl
past_end (x ∷ xs) zero le = absurd (omega arith)
past_end (x ∷ xs) (suc i) le = past_end xs i (omega arith)

-- what is read within a list does not depend on what would be read after it
pub any_default : (xs : List ℕ) (i d : ℕ) → ltb i (length xs) ≡ true → get_or xs i d ≡ get_or xs i 0
any_default [] i d is = absurd (omega (arith, ltb-true i 0 is))
any_default (x ∷ xs) zero d is = refl
any_default (x ∷ xs) (suc i) d is = any_default xs i d (lt-ltb i (length xs) (omega (arith, ltb-true (suc i) (suc (length xs)) is)))

pub none_after : (octets : List ℕ) (place : ℕ) → ltb (place / 8) (length octets) ≡ false → (get_or (bits_of octets) place 0 == 1) ≡ false
none_after octets place is = rw (past_end (bits_of octets) place (omega (arith, ltb-false _ _ is, bits_count octets))) refl

-- ---- going over bits

pub step_set : (first place : ℕ) (bits : List ℕ) → place < length bits → (get_or bits place 0 == 1) ≡ true → set_from (first + place) (drop place bits) ≡ (first + place) ∷ set_from (first + (place + 1)) (drop (place + 1) bits)
unfolding set_from
step_set first place bits lt is =
    let next : first + (place + 1) ≡ suc (first + place) = omega arith in
    let after : place + 1 ≡ suc place = omega arith in
    rw (drop-cons bits place 0 lt, is, next, after) refl

pub step_clear : (first place : ℕ) (bits : List ℕ) → place < length bits → (get_or bits place 0 == 1) ≡ false → set_from (first + place) (drop place bits) ≡ set_from (first + (place + 1)) (drop (place + 1) bits)
unfolding set_from
step_clear first place bits lt is =
    let next : first + (place + 1) ≡ suc (first + place) = omega arith in
    let after : place + 1 ≡ suc place = omega arith in
    rw (drop-cons bits place 0 lt, is, next, after) refl

pub none_left : (first place : ℕ) (bits : List ℕ) → length bits ≤ place → set_from (first + place) (drop place bits) ≡ []
unfolding set_from
none_left first place bits le = rw (drop_all place bits le) refl
