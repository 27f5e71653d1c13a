-- What a server gives, it takes.
use Rattle.std.proofs.Common.{◌≡◌, ℕ, zero, suc, ◌<◌, ◌≤◌, ◌^◌, Bool, true, false, cond, List, [], ◌∷◌, ◌++◌, length, take, drop, Option, Some, None, refl, sym, ap, subst, ◌∙◌, arith}
use Rattle.std.specs.Prelude.{nat_lt, ◌||◌}
use Rattle.std.specs.Int.{w32, to_be_bytes, from_be_bytes}
use Rattle.std.proofs.lemmas.List.{take_at, drop_at, drop-drop, length-append, append_assoc, append-nil, get_or-append_right}
use Rattle.std.proofs.lemmas.Nat.{from_be_bytes-to_be_bytes_4}
use Rattle.dns_wire.specs.Building.{Occurs}
use Rattle.dns_wire.specs.Reading.{all_of}
use Rattle.dns_edns.specs.Cookies.{cookie, IsWithin, IsTaken, unhashed, response, version_in, timestamp_in, hash_in}

module _ (client : List ℕ) (time : ℕ) (hashed : List ℕ) (long : length client ≡ 8) where
  sixteen : length (unhashed client time) ≡ 16
  sixteen = omega (arith, long, length-append client (1 ∷ 0 ∷ 0 ∷ 0 ∷ to_be_bytes w32 time))

  apart : unhashed client time ++ hashed ≡ client ++ 1 ∷ 0 ∷ 0 ∷ 0 ∷ (to_be_bytes w32 time ++ hashed)
  apart = append_assoc client (1 ∷ 0 ∷ 0 ∷ 0 ∷ to_be_bytes w32 time) hashed

  version : version_in (unhashed client time ++ hashed) ≡ 1
  version = ap version_in apart ∙ get_or-append_right client (1 ∷ 0 ∷ 0 ∷ 0 ∷ (to_be_bytes w32 time ++ hashed)) 8 8 0 long (omega arith)

  timestamp : time < 2 ^ 32 → timestamp_in (unhashed client time ++ hashed) ≡ time
  timestamp short =
      ap timestamp_in apart
      ∙ ap (λ (l : List ℕ). from_be_bytes w32 (take 4 l))
      (sym (drop-drop 4 8 (client ++ 1 ∷ 0 ∷ 0 ∷ 0 ∷ (to_be_bytes w32 time ++ hashed)))
      ∙ ap (drop 4) (drop_at client (1 ∷ 0 ∷ 0 ∷ 0 ∷ (to_be_bytes w32 time ++ hashed)) 8 long))
      ∙ from_be_bytes-to_be_bytes_4 time short

pub taken : (hash : List ℕ → List ℕ) (client : List ℕ) (time : ℕ) (address : List ℕ) (from until : ℕ) → length client ≡ 8 → time < 2 ^ 32 → length (hash (unhashed client time ++ address)) ≡ 8 → IsWithin from until time → IsTaken hash address from until (response hash client time address)
taken hash client time address from until long short eight within =
    let prefix : List ℕ = unhashed client time in
    let hashed : List ℕ = hash (prefix ++ address) in
    let trailing : hash_in (prefix ++ hashed) ≡ hashed = drop_at prefix hashed 16 (sixteen client time hashed long) in
    record {
      version = version client time hashed long;
      size = ap length trailing ∙ eight;
      moment = subst (λ (t : ℕ). IsWithin from until t) (sym (timestamp client time hashed long short)) within;
      hashed = ap (λ (l : List ℕ). hash (l ++ address)) (take_at prefix hashed 16 (sixteen client time hashed long)) ∙ sym trailing;
    }

-- if a cookie has the octets of one that was given, it is taken exactly within the time
pub taken_within : (hash : List ℕ → List ℕ) (client : List ℕ) (time : ℕ) (address : List ℕ) (from until : ℕ) (octets : List ℕ) → length client ≡ 8 → time < 2 ^ 32 → length (response hash client time address) ≡ 24
    → octets ≡ response hash client time address → (IsTaken hash address from until octets → IsWithin from until time) × (IsWithin from until time → IsTaken hash address from until octets)
taken_within hash client time address from until octets long short whole same =
    let hashed : List ℕ = hash (unhashed client time ++ address) in
    let eight : length hashed ≡ 8 = omega (arith, whole, length-append (unhashed client time) hashed, sixteen client time hashed long) in (
      λ t. subst (λ (n : ℕ). IsWithin from until n) (ap timestamp_in same ∙ timestamp client time hashed long short) t.moment,
      λ within. subst (λ (l : List ℕ). IsTaken hash address from until l) (sym same) (taken hash client time address from until long short eight within),
    )

-- what fills the whole buffer
pub fills : (octets old new : List ℕ) (end : ℕ) → Occurs octets old 0 new end → length old ≡ length octets → new ≡ octets
fills octets old new end occurs same =
    occurs.new_is ∙ ap (λ (l : List ℕ). octets ++ l) (nothing end old (omega (arith, occurs.end_is, same))) ∙ append-nil octets where
      nothing : (n : ℕ) (l : List ℕ) → length l ≤ n → drop n l ≡ []
      nothing zero [] all = refl
      nothing zero (x ∷ l) all = absurd (omega arith)
      nothing (suc n) [] all = refl
      nothing (suc n) (x ∷ l) all = nothing n l (omega arith)

sized : (few many : Bool) (bytes x : List ℕ) → all_of (cond {A = Option (List ℕ × List ℕ)} (few || many) None (Some (bytes, []))) ≡ Some x → x ≡ bytes
sized true many bytes x e = absurd cc
sized false true bytes x e = absurd cc
sized false false bytes x e = cc

-- a cookie is all its octets
pub cookie_is : (bytes x : List ℕ) → all_of (cookie bytes) ≡ Some x → x ≡ bytes
cookie_is bytes x e = sized (nat_lt (length bytes) 16) (nat_lt 40 (length bytes)) bytes x e
