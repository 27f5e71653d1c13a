-- The flags of hashed owners.
use Rattle.std.specs.Prelude.{ℕ}
use Rattle.dns_nsec.specs.declared.flags.Nsec3Flags.{Nsec3Flags}

-- their 8 bits as a number
abbrev pub nsec3_flag_bits : Nsec3Flags → ℕ
nsec3_flag_bits flags = flags.bits
