-- What it means that a value is written, whatever the type.
use Rattle.std.specs.Prelude.{◌≡◌, ℕ, ◌+◌, ◌<◌, ◌≤◌, ◌++◌, length, take, drop, Result, IfOk, OnErr}
use Rattle.std.specs.Borrow.{LendsSoOk, MutBor, Fml, Array, u8}
use Rattle.dns_wire.specs.Octets.{Octets}

-- the octets lie from start to end, and all others are as they were
pub record Occurs (octets old : Octets) (start : ℕ) (new : Octets) (end : ℕ) : Type 0 where
  pub end_is : end ≡ start + length octets
  pub within : end ≤ length old
  pub new_is : new ≡ take start old ++ (octets ++ drop end old)

-- What a building call does: it is accepted exactly if all prefixed data fit and the octets are at most the free
-- ones. Then they lie from start on. Else the octets before start are as they were.
pub record Builds {E : Type 0} (fits : Type 0) (octets old : Octets) (start : ℕ) (new : Octets) (result : Result ℕ E) : Type 0 where
  pub ok : IfOk result (λ end. fits × Occurs octets old start new end)
  pub err : OnErr result ((take start new ≡ take start old) × (length new ≡ length old) × (fits → length old < start + length octets))

-- At `Ok` the whole buffer ends as the octets, and after them whatever the rest is left with.
-- At `Err` it ends as something of its length.
abbrev pub LendsRest : {E : Type 0} → MutBor Octets → Result (MutBor Octets) E → Octets → Fml
LendsRest bytes result octets =
    LendsSoOk (Array u8 0) (Array u8 0) bytes result (λ whole rest. whole ≡ octets ++ rest) (λ whole. length whole ≡ length bytes.now)
