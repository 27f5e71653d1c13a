-- Times of 32 bits (RFC 4034 section 3.1.5): seconds since the beginning of 1970, without regard to multiples of 2 ^ 32.
use Rattle.std.specs.Prelude.{◌≡◌, ℕ, ◌+◌, ◌%◌, ◌≤◌, ◌<◌, ◌^◌}

-- the moment that a stamp means, which lies at most 2 ^ 31 before the reference, and less than that after it
pub record IsNearest (stamp reference moment : ℕ) : Type 0 where
  pub same : moment % 2 ^ 32 ≡ stamp
  pub least : reference ≤ moment + 2 ^ 31
  pub most : moment < reference + 2 ^ 31
