-- The outside: octets left to read, octets written, and faults.
use Rattle.std.specs.Prelude.{◌≡◌, ℕ, ◌+◌, ◌-◌, ◌^◌, ◌≤◌, [], length, take, drop, Bool, false, min, nat_lt, if◌then◌else◌, OnOk, OnErr, IfSome, MatchResult, Option, Some, None, Result}
use Rattle.std.specs.Io.KnownBytes.{Appends}
use Rattle.dns_wire.specs.Octets.{Octets}

-- ---- faults

-- a count of faults has counted one: it is one more than before, or is at its last value, where it stops
abbrev pub Rose : ℕ → ℕ → Type 0
Rose before now = now ≡ min (before + 1) (2 ^ 64 - 1)

-- a count never falls, stays at `Ok`, and counts one if the call fails
pub record HasCause {T E : Type 0} (before now : ℕ) (result : Result T E) : Type 0 where
  pub later : before ≤ now
  pub steady : OnOk result (now ≡ before)
  pub failed : OnErr result (Rose before now)

-- ---- the flag of a sink: all that was taken has arrived

-- the flag, if it is known, is now this
abbrev pub BecomesFlag : Option Bool → Option Bool → Bool → Type 0
BecomesFlag None new value = Unit {0}
BecomesFlag (Some old) new value = new ≡ Some value

-- the flag, if it is known, stays
abbrev pub FlagUnchanged : Option Bool → Option Bool → Type 0
FlagUnchanged None new = Unit {0}
FlagUnchanged (Some old) new = new ≡ Some old

-- a write that takes an octet makes the flag false, and no other does anything to it
abbrev pub WriteFlag : {E : Type 0} → Option Bool → Option Bool → Result ℕ E → Type 0
WriteFlag None new result = Unit {0}
WriteFlag (Some old) new result = MatchResult result (λ n. new ≡ Some (if nat_lt 0 n then false else old)) (λ _. new ≡ Some old)

-- ---- where octets are read to

-- only the octets that were read are put into the buffer, and nothing is if the call fails
abbrev pub UnchangedAfter : {E : Type 0} → Octets → Octets → Result ℕ E → Type 0
UnchangedAfter old new result = MatchResult result (λ n. drop n new ≡ drop n old) (λ _. new ≡ old)

-- ---- whole texts

-- all that was left has been read, and nothing is left, if octets are known
abbrev pub ReadsAll : Option Octets → Option Octets → Octets → Type 0
ReadsAll old new text = IfSome old (λ all. (text ≡ all) × (new ≡ Some []))

-- some prefix of the text has been written
abbrev pub WritesPrefix : Option Octets → Option Octets → Octets → Type 0
WritesPrefix old new text = (n : ℕ) × (n ≤ length text) × Appends old new (take n text)

-- the text has been written at `Ok`, and some prefix of it at `Err`
abbrev pub Puts : {E : Type 0} → Option Octets → Option Octets → Octets → Result (Unit {0}) E → Type 0
Puts old new text result = MatchResult result (λ _. Appends old new text) (λ _. WritesPrefix old new text)
