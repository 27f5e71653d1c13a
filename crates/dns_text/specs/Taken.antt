-- How much is taken of what a source has left.
use Rattle.std.specs.Prelude.{ℕ, ◌≤◌, length, Option}
use Rattle.std.specs.Io.KnownBytes.{Consumes}
use Rattle.dns_wire.specs.Octets.{Octets}

-- no more octets than that many have been taken of what was known
abbrev pub TakesAtMost : Option Octets → Option Octets → ℕ → Type 0
TakesAtMost old new most = (taken : Octets) × Consumes old new taken × (length taken ≤ most)
