-- What is seen of a source and of a sink in memory.
use Rattle.std.specs.Prelude.{ℕ, List, Bool}
use Rattle.dns_wire.specs.Octets.{Octets}

-- the octets left, the most octets of one read, the numbers of the calls that fail, how many calls there were, and how
-- many of them failed
pub record Supply : Type 0 where
  pub left : Octets
  pub piece : ℕ
  pub failing : List ℕ
  pub calls : ℕ
  pub faults : ℕ

-- the octets written, those of the buffer after them, which are free, the most octets of one write, the numbers of the
-- calls that fail, the flag, how many calls there were, and how many of them failed
pub record Store : Type 0 where
  pub written : Octets
  pub free : Octets
  pub piece : ℕ
  pub failing : List ℕ
  pub flushed : Bool
  pub calls : ℕ
  pub faults : ℕ
