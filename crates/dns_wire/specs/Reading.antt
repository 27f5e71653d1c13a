-- What it means that octets are read, whatever the type.
use Rattle.std.specs.Prelude.{◌≡◌, ℕ, ◌<◌, ◌≤◌, ◌-◌, [], ◌∷◌, length, take, drop, Option, Some, None, Result, Ok, Err, nat_lt, slice_index, ◌==◌, if◌then◌else◌}
use Rattle.std.specs.Int.{Width, byte_len, from_be_bytes}
use Rattle.dns_wire.specs.Octets.{Octets}
use Rattle.dns_wire.specs.declared.error.ParseError.{ParseError}
use denote.Ref.{Bor}

-- these numbers are octets
abbrev pub AreOctets : Octets → Type 0
AreOctets bytes = (i : ℕ) → slice_index bytes i < 256

-- What a call answered, seen by view, is what the grammar reads: `Ok` exactly if it reads something.
abbrev pub Gives : {X E Y : Type 0} → (X → Y) → Result X E → Option Y → Type 0
Gives view (Ok x) read = read ≡ Some (view x)
Gives view (Err e) read = read ≡ None

-- what is read, if no octet is left over
abbrev pub all_of : {Y : Type 0} → Option (Y × Octets) → Option Y
all_of None = None
all_of (Some (y, [])) = Some y
all_of (Some (y, x ∷ rest)) = None

-- a value that was read, if no octet is left over
abbrev pub whole_of : {T : Type 0} → Result (T × Bor Octets) ParseError → Result T ParseError
whole_of (Err e) = Err e
whole_of (Ok (value, rest)) = elim rest.now [ [] ↦ Ok value | x ∷ more ↦ Err (record {}) ]

-- the rest is what follows: the octets without that many from the start
pub record Follows (rest bytes : Octets) : Type 0 where
  pub count : ℕ
  pub within : count ≤ length bytes
  pub rest_is : rest ≡ drop count bytes

-- what a grammar leaves over is what follows
abbrev pub LeavesRest : {Y : Type 0} → (Octets → Option (Y × Octets)) → Type 0
LeavesRest {Y} grammar = (bytes : Octets) (y : Y) (rest : Octets) → grammar bytes ≡ Some (y, rest) → Follows rest bytes

-- one octet
abbrev pub octet : Octets → Option (ℕ × Octets)
octet [] = None
octet (x ∷ rest) = Some (x, rest)

-- that many octets
abbrev pub octets : ℕ → Octets → Option (Octets × Octets)
octets n bytes = if nat_lt (length bytes) n then None else Some (take n bytes, drop n bytes)

-- a number, the most significant octet first (RFC 1035 section 2.3.2)
abbrev pub number : Width → Octets → Option (ℕ × Octets)
number w bytes =
    if nat_lt (length bytes) (byte_len w) then None
    else Some (from_be_bytes w (take (byte_len w) bytes), drop (byte_len w) bytes)

-- ---- at a place in the contents of a message, which are its octets after the header

-- what a grammar reads ends in the contents and not before it begins, so that nothing is read from after their end
abbrev pub EndsWithin : {Y : Type 0} → (Octets → ℕ → Option (Y × ℕ)) → Type 0
EndsWithin {Y} grammar = (contents : Octets) (at : ℕ) (y : Y) (end : ℕ) → grammar contents at ≡ Some (y, end) → (at ≤ end) × (end ≤ length contents)

-- what is read, if it ends with the contents
abbrev pub all_at : {Y : Type 0} → Octets → Option (Y × ℕ) → Option Y
all_at contents None = None
all_at contents (Some (y, end)) = if end == length contents then Some y else None

-- a value that was read, if it ends with the contents
abbrev pub whole_in : {T : Type 0} → Octets → Result (T × ℕ) ParseError → Result T ParseError
whole_in contents (Err e) = Err e
whole_in contents (Ok (value, end)) = if end == length contents then Ok value else Err (record {})

-- where in the contents the rest begins
abbrev pub with_end : {Y : Type 0} → Octets → Option (Y × Octets) → Option (Y × ℕ)
with_end contents None = None
with_end contents (Some (y, rest)) = Some (y, length contents - length rest)

-- what a grammar reads that knows no places; nothing from a place after the end
abbrev pub plain_at : {Y : Type 0} → (Octets → Option (Y × Octets)) → Octets → ℕ → Option (Y × ℕ)
plain_at grammar contents start =
    if nat_lt (length contents) start then None else with_end contents (grammar (drop start contents))
