-- Octets that a value owns, and that are borrowed for writing.
use Rattle.std.specs.Prelude.{ℕ, ◌+◌, length, take, drop, slice_index, ◌++◌}
use Rattle.std.specs.Borrow.{Lends, Fml, RattleType, MutBor, Array, u8}
use Rattle.dns_wire.specs.Octets.{Octets}
use Rattle.dns_wire.specs.contracts.storage.Storage.{the_row}

-- what is stored after an octet with its number; octets after it mean nothing
abbrev pub stored : Octets → Octets
stored octets = take (slice_index octets 0) (drop 1 octets)

-- the octets with others written from a place on, as far as there is room
abbrev pub overwritten : Octets → ℕ → Octets → Octets
overwritten octets start written = take (length octets) (take start octets ++ (written ++ drop (start + length written) octets))

-- once the borrow r ends, what was written through it lies from the place on
abbrev pub LendsPart : (N : RattleType) → MutBor (the_row N).Denot → ℕ → MutBor Octets → Fml
LendsPart N s start r = Lends (the_row N) (Array u8 0) s r (λ written. record { octets = overwritten s.now.octets start written })
