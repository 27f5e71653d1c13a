-- Octets in a buffer of the caller's.
use Rattle.std.specs.Prelude.{◌≡◌, ℕ, ◌++◌, drop, length, nat_lt, if◌then◌else◌}
use Rattle.dns_wire.specs.Octets.{Octets}
use Rattle.nelgvasti.specs.declared.answers.TheConstants.{DONE, TOO_SMALL}

-- the new buffer begins with the octets, and is as it was after them
abbrev pub Fills : Octets → Octets → Octets → Type 0
Fills octets old new = new ≡ octets ++ drop (length octets) old

-- the answer to octets that are to be written to a buffer with that much room
abbrev pub room_answer : Octets → ℕ → ℕ
room_answer octets room = if nat_lt room (length octets) then TOO_SMALL else DONE
